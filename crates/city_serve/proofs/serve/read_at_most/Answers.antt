use Rattle.city_serve.proofs.Prelude.{◌≡◌, ◌+◌, ◌≤◌, length, arith}
use Rattle.std.proofs.lemmas.Grind.{common_steps}
use Rattle.city_serve.proofs.KnownBytes.{consumes_then_keeps, end_read, loses_more, most_read}
use Rattle.city_serve.proofs.serve.read_at_most.Goals as goal

pub returns-in_err-count-clause-taken : goal.returns-in_err-count-clause-taken
returns-in_err-count-clause-taken g c =
    let so_far = c.loop-chunk.invariant in (
      c.loop-chunk.input.items,
      consumes_then_keeps (g.R.Read.remaining c.args.reader.now.0) (g.R.Read.remaining c.loop-chunk.reader.0)
          (g.R.Read.remaining c.read_some.new.self.0) c.loop-chunk.input.items so_far.0 c.in_err-count.ensures.kept,
      so_far.1,
    )

pub returns-then-count-eq0-clause-input : goal.returns-then-count-eq0-clause-input
returns-then-count-eq0-clause-input g c =
    end_read (g.R.Read.remaining c.args.reader.now.0) (g.R.Read.remaining c.loop-chunk.reader.0)
    (g.R.Read.remaining c.read_some.new.self.0) c.loop-chunk.input.items c.read_some.new.chunk c.in_ok-count.count
    c.args.most
    c.loop-chunk.invariant.0 c.in_ok-count.ensures.bytes c.if-count-eq0.true
    (c.in_ok-count.ensures.end c.if-count-eq0.true) c.loop-chunk.invariant.1

pub returns-then-count-eq0-clause-taken : goal.returns-then-count-eq0-clause-taken
returns-then-count-eq0-clause-taken g c =
    let within : length c.loop-chunk.input.items + c.in_ok-count.count ≤ c.args.most =
    omega (arith, c.if-count-eq0.true, c.loop-chunk.invariant.1) in
    loses_more (g.R.Read.remaining c.args.reader.now.0) (g.R.Read.remaining c.loop-chunk.reader.0)
    (g.R.Read.remaining c.read_some.new.self.0) c.loop-chunk.input.items c.read_some.new.chunk c.in_ok-count.count
    c.args.most
    c.loop-chunk.invariant.0 c.in_ok-count.ensures.bytes within

pub returns-in_err-extend_from_slice-clause-taken : goal.returns-in_err-extend_from_slice-clause-taken
returns-in_err-extend_from_slice-clause-taken g c =
    let within : length c.loop-chunk.input.items + c.in_ok-count.count ≤ c.args.most = grind (arith, common_steps) in
    loses_more (g.R.Read.remaining c.args.reader.now.0) (g.R.Read.remaining c.loop-chunk.reader.0)
    (g.R.Read.remaining c.read_some.new.self.0) c.loop-chunk.input.items c.read_some.new.chunk c.in_ok-count.count
    c.args.most
    c.loop-chunk.invariant.0 c.in_ok-count.ensures.bytes within

pub returns-clause-input : goal.returns-clause-input
returns-clause-input g c =
    let full : length c.loop-chunk.input.items ≡ c.args.most =
    omega (arith, c.len.ensures, c.loop-chunk.input.ok.0, c.loop-chunk.invariant.1, c.loop-chunk-test.false) in
    most_read (g.R.Read.remaining c.args.reader.now.0) (g.R.Read.remaining c.loop-chunk.reader.0)
    c.loop-chunk.input.items c.args.most c.loop-chunk.invariant.0 full

pub returns-clause-taken : goal.returns-clause-taken
returns-clause-taken g c = (c.loop-chunk.input.items, c.loop-chunk.invariant.0, c.loop-chunk.invariant.1)

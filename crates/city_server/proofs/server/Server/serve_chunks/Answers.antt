use Rattle.std.proofs.Common.{◌∙◌, ◌++◌, [], refl, take}
use Rattle.std.proofs.KnownBytes.{Consumes-kept, Consumes-nil, Consumes-trans}
use Rattle.city_server.proofs.Breaking.{at_err, breaks_in, breaks_read, bytes_begin, bytes_read}
use Rattle.city_server.proofs.server.Server.serve_chunks.Goals as goal

pub loop-init : goal.loop-init
loop-init g c = (
  [],
  Consumes-nil (g.R.Read.remaining c.args.input.now.0),
  bytes_begin [] [] c.args.begun.now.skip c.args.begun.now.kept.items c.args.self.now.hands c.args.self.now.told
      (g.W.Write.contents c.args.output.now.0) c.requires.none refl,
  refl,
)

pub returns-in_err-count-clause-err : goal.returns-in_err-count-clause-err
returns-in_err-count-clause-err g c =
    let so_far = c.loop.invariant in
    at_err c.from_residual.result (
      so_far.0,
      Consumes-kept (g.R.Read.remaining c.args.input.now.0) (g.R.Read.remaining c.loop.input.0)
          (g.R.Read.remaining c.read_some.new.self.0) so_far.0 so_far.1 c.in_err-count.ensures.kept,
      breaks_in so_far.2,
    )

pub returns-in_err-serve_read-clause-err : goal.returns-in_err-serve_read-clause-err
returns-in_err-serve_read-clause-err g c =
    let so_far = c.loop.invariant in
    at_err c.from_residual-in_err-serve_read.result (
      so_far.0 ++ take c.in_ok-count.count c.read_some.new.chunk,
      Consumes-trans (g.R.Read.remaining c.args.input.now.0) (g.R.Read.remaining c.loop.input.0)
          (g.R.Read.remaining c.read_some.new.self.0) so_far.0 (take c.in_ok-count.count c.read_some.new.chunk) so_far.1
          c.in_ok-count.ensures.bytes,
      breaks_read so_far.2 c.in_err-serve_read.ensures.err,
    )

pub loop-preserved : goal.loop-preserved
loop-preserved g c =
    let so_far = c.loop.invariant in (
      so_far.0 ++ take c.in_ok-count.count c.read_some.new.chunk,
      Consumes-trans (g.R.Read.remaining c.args.input.now.0) (g.R.Read.remaining c.loop.input.0)
          (g.R.Read.remaining c.read_some.new.self.0) so_far.0 (take c.in_ok-count.count c.read_some.new.chunk) so_far.1
          c.in_ok-count.ensures.bytes,
      bytes_read so_far.2 c.in_ok-serve_read.ensures.ok,
      c.read_some.auto.chunk ∙ so_far.3,
    )

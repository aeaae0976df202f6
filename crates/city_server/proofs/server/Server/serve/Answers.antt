use Rattle.std.proofs.Common.{◌∷◌, [], refl, subst}
use Rattle.std.proofs.KnownBytes.{Consumes-nil}
use Rattle.city_live.specs.Serving.{IsServed}
use Rattle.city_server.proofs.Breaking.{at_err, breaks_in, breaks_same, bytes_same}
use Rattle.city_server.proofs.Living.{all_answered, breaks_first, breaks_last, breaks_later, breaks_ready}
use Rattle.city_server.proofs.Living.{first_answered}
use Rattle.city_server.proofs.server.Server.serve.Goals as goal

pub returns-in_err-chunk-clause-first : goal.returns-in_err-chunk-clause-first
returns-in_err-chunk-clause-first g c =
    let input = g.R.Read.remaining c.args.input.now.0 in
    at_err c.from_residual.result
    (first_answered input input [] c.requires (Consumes-nil input)
    (breaks_first c.args.self.now.hands c.args.self.now.told (g.W.Write.contents c.args.output.now.0) (10 ∷ [])))

pub returns-in_err-write_out-clause-first : goal.returns-in_err-write_out-clause-first
returns-in_err-write_out-clause-first g c =
    let input = g.R.Read.remaining c.args.input.now.0 in
    at_err c.from_residual-in_err-write_out.result
    (first_answered input input [] c.requires (Consumes-nil input)
    (breaks_ready c.args.self.now.hands c.args.self.now.told (10 ∷ []) c.in_err-write_out.ensures.err))

pub returns-in_err-serve_chunks-clause-first : goal.returns-in_err-serve_chunks-clause-first
returns-in_err-serve_chunks-clause-first g c =
    let broken = c.in_err-serve_chunks.ensures.err in
    at_err c.from_residual-in_err-serve_chunks.result
    (first_answered (g.R.Read.remaining c.args.input.now.0) (g.R.Read.remaining c.serve_chunks.new.input.0) broken.0
    c.requires broken.1
    (breaks_later broken.0 c.in_ok-write_out.ensures.ok (breaks_same c.write_out.ensures.hands refl broken.2)))

pub returns-in_err-serve_last-clause-first : goal.returns-in_err-serve_last-clause-first
returns-in_err-serve_last-clause-first g c =
    let read = c.in_ok-serve_chunks.ensures.ok in
    at_err c.from_residual-in_err-serve_last.result
    (first_answered (g.R.Read.remaining c.args.input.now.0) (g.R.Read.remaining c.serve_chunks.new.input.0) read.0
    c.requires read.1
    (breaks_later read.0 c.in_ok-write_out.ensures.ok (breaks_same c.write_out.ensures.hands refl (breaks_in read.3))))

pub returns-in_err-write_out-2-clause-first : goal.returns-in_err-write_out-2-clause-first
returns-in_err-write_out-2-clause-first g c =
    let read = c.in_ok-serve_chunks.ensures.ok in
    let served = bytes_same c.write_out.ensures.hands refl refl read.3 in
    at_err c.from_residual-in_err-write_out-2.result
    (first_answered (g.R.Read.remaining c.args.input.now.0) (g.R.Read.remaining c.serve_chunks.new.input.0) read.0
    c.requires read.1
    (breaks_last c.in_ok-write_out.ensures.ok served (c.in_ok-serve_last.ensures served.last served.begun)
    c.in_err-write_out-2.ensures.err))

pub returns-clause-all : goal.returns-clause-all
returns-clause-all g c =
    let read = c.in_ok-serve_chunks.ensures.ok in
    let served = bytes_same c.write_out.ensures.hands refl refl read.3 in
    all_answered (g.R.Read.remaining c.args.input.now.0) (g.R.Read.remaining c.serve_chunks.new.input.0) c.requires
    read.1 read.2 c.in_ok-write_out.ensures.ok served (c.in_ok-serve_last.ensures served.last served.begun)
    c.in_ok-write_out-2.ensures.ok (subst IsServed c.write_out-2.ensures.hands c.are_served.ensures)

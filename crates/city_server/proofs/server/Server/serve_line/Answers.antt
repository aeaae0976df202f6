use Rattle.std.proofs.Common.{◌++◌, ◌∷◌, [], subst, sym}
use Rattle.std.proofs.lemmas.Result.{on_err_weaker, on_ok_weaker}
use Rattle.city_live.specs.Serving.{Served}
use Rattle.city_server.proofs.Answering.{serves_added, serves_written}
use Rattle.city_server.proofs.Breaking.{at_err, breaks_writing, line_whole}
use Rattle.city_server.proofs.Living.{breaks_first}
use Rattle.city_server.specs.Sessions.{Serves}
use Rattle.city_server.proofs.server.Server.serve_line.Goals as goal

pub returns-in_err-end_line-clause-err : goal.returns-in_err-end_line-clause-err
returns-in_err-end_line-clause-err g c =
    at_err c.from_residual.result
    (λ start begun is. breaks_first c.args.self.now.hands c.args.self.now.told (g.W.Write.contents c.args.output.now.0)
    ((start ++ c.args.bytes.now) ++ 10 ∷ []))

pub returns-clause-err : goal.returns-clause-err
returns-clause-err g c =
    on_err_weaker c.write_out.result
    (λ some start begun is. breaks_writing ((start ++ c.args.bytes.now) ++ 10 ∷ []) [] (is, tt)
    (line_whole (start ++ c.args.bytes.now))
    (serves_added (g.W.Write.contents c.args.output.now.0) (c.in_ok-end_line.ensures.answered start begun)) some)
    c.write_out.ensures.err

pub returns-clause-ok : goal.returns-clause-ok
returns-clause-ok g c =
    on_ok_weaker c.write_out.result
    (λ out start begun. subst
    (λ (u : Served). Serves ((start ++ c.args.bytes.now) ∷ []) c.args.self.now.hands u c.args.self.now.told
    c.write_out.new.self.told (g.W.Write.contents c.args.output.now.0) (g.W.Write.contents c.write_out.new.output.0))
    (sym c.write_out.ensures.hands)
    (serves_written
    (serves_added (g.W.Write.contents c.args.output.now.0) (c.in_ok-end_line.ensures.answered start begun)) out))
    c.write_out.ensures.ok

use Rattle.std.proofs.Common.{ℕ, List, subst, sym}
use Rattle.std.proofs.lemmas.Result.{on_ok_weaker}
use Rattle.city_server.proofs.Living.{last_of}
use Rattle.city_server.specs.Lines.{HasBegun}
use Rattle.city_server.specs.Sessions.{AddsAnswers}
use Rattle.city_server.proofs.server.Server.serve_last.Goals as goal

pub returns : goal.returns
returns g c =
    on_ok_weaker c.handle_begun.result
    (λ answered start begun.
    subst (λ (ls : List (List ℕ)). AddsAnswers ls c.args.self.now.hands c.handle_begun.new.self.hands
    c.args.self.now.told c.handle_begun.new.self.told)
    (sym (last_of start (λ none. c.is_empty.ensures.some c.if-is_empty.false
    (subst (HasBegun c.args.begun.now.skip c.args.begun.now.kept.items) none begun))))
    (answered start begun))
    c.handle_begun.ensures.answered

use Rattle.std.specs.Prelude.{◌≡◌, take}
use Rattle.city_server.specs.Asked.{EachTold, IsSaveTold, model_version}
use Rattle.city_server.specs.Sessions.{Adds}
use Rattle.city_server.proofs.server.Server.save_each.Given as goal

abbrev pub invariant-loop-answer : goal.invariant-loop-answer
invariant-loop-answer g l =
    Adds (EachTold (λ a. IsSaveTold l.fn.self.told.decimals l.fn.self.told.line a (model_version a.what))
    (take l.answer-index l.answers)) l.fn.self.told l.self.told
    × (l.self.hands ≡ l.fn.self.hands)

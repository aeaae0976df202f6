use Rattle.std.specs.Prelude.{◌≡◌, take}
use Rattle.city_server.specs.Answered.{IsAnswerTold}
use Rattle.city_server.specs.Asked.{EachTold}
use Rattle.city_server.specs.Sessions.{Adds}
use Rattle.city_server.proofs.server.Server.tell_each.Given as goal

abbrev pub invariant-loop-answer : goal.invariant-loop-answer
invariant-loop-answer g l =
    Adds (EachTold (IsAnswerTold l.fn.self.told.decimals l.fn.self.told.line l.form) (take l.answer-index l.answers))
    l.fn.self.told l.self.told
    × (l.self.hands ≡ l.fn.self.hands)

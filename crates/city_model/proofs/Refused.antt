-- Refusals, and the snapshot after a refused command.
use Rattle.city_model.proofs.Prelude.{arith, ◌≡◌, true, Command, Cause, Refused, Action, action, Snapshot, Answers}
use Rattle.city_model.proofs.Prelude.{Does, applied, left, effect, is_refusal, answer, step}
use Rattle.city_model.specs.Meaning.{reply_of}
use Rattle.city_model.proofs.ActionKinds.{IsKindOf, kind_of}
use Rattle.city_model.proofs.GoingOn.{answered_next}

applied_stays : (v : Snapshot) (c : Command) (a : Action) → IsKindOf c a → is_refusal (reply_of (applied v a)) ≡ true
    → left v (applied v a) ≡ v
applied_stays v c a k h = grind arith

-- a refused command changes nothing
pub refused_stays : (v : Snapshot) (c : Command) → is_refusal (answer v c) ≡ true → step v c ≡ v
refused_stays v c h = applied_stays v c (action v.map c) (kind_of v.map c) h

pub refused_does : (v : Snapshot) (c : Command) (cause : Cause) (u : Snapshot) → effect v c ≡ Answers (Refused cause) u
    → Does v c (Refused cause) v
refused_does v c cause u is = grind (arith, answered_next v c (Refused cause) u is, refused_stays v c)

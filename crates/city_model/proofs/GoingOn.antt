-- A command other than an end of its script is answered, and goes on.
use Rattle.city_model.proofs.Prelude.{arith, ◌≡◌, Bool, true, false, Command, Reply, Committed, Aborted, Snapshot}
use Rattle.city_model.proofs.Prelude.{Action}
use Rattle.city_model.proofs.Prelude.{Effect, Answers, applied, effect, action, answer, left, step, GoesOn, is_end}
use Rattle.city_model.specs.Meaning.{reply_of}
use Rattle.city_model.proofs.ActionKinds.{IsKindOf, kind_of}

pub goes_on_case : {X : Type 0} (P : Reply → Snapshot → Type 0) (e : Effect)
    → ((reply : Reply) (u : Snapshot) → e ≡ Answers reply u → P reply u → X) → GoesOn e P → X
goes_on_case P e f g = grind arith

-- from one property of the reply and the snapshot after it to another
pub goes_on_to : (P Q : Reply → Snapshot → Type 0) (e : Effect)
    → ((reply : Reply) (u : Snapshot) → e ≡ Answers reply u → P reply u → Q reply u) → GoesOn e P → GoesOn e Q
goes_on_to P Q e f g = grind arith

pub answered_next : (v : Snapshot) (c : Command) (reply : Reply) (u : Snapshot) → effect v c ≡ Answers reply u
    → u ≡ step v c
answered_next v c reply u is = grind arith

-- ---- an action of the command

-- the ending replies of a script
abbrev pub is_ending : Reply → Bool
is_ending Committed = true
is_ending Aborted = true
is_ending reply = false

applied_goes_on : (v : Snapshot) (c : Command) (a : Action) → IsKindOf c a → is_end c ≡ false
    → applied v a ≡ Answers (reply_of (applied v a)) (left v (applied v a))
applied_goes_on v c a k on = grind arith

applied_no_end : (v : Snapshot) (c : Command) (a : Action) (reply : Reply) (u : Snapshot) → IsKindOf c a
    → applied v a ≡ Answers reply u → (is_end c ≡ false) × (is_ending reply ≡ false)
applied_no_end v c a reply u k is = grind arith

pub effect_is : (v : Snapshot) (c : Command) → is_end c ≡ false → effect v c ≡ Answers (answer v c) (step v c)
effect_is v c on = applied_goes_on v c (action v.map c) (kind_of v.map c) on

pub answered_no_ending : (v : Snapshot) (c : Command) (reply : Reply) (u : Snapshot) → effect v c ≡ Answers reply u
    → is_ending reply ≡ false
answered_no_ending v c reply u is = (applied_no_end v c (action v.map c) reply u (kind_of v.map c) is).1

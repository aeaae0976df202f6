-- Locks asked for in turn, up to the first not granted.
use Rattle.std.specs.Prelude.{◌≡◌, ◌⊎◌, ◌==◌, ◌<◌, ℕ, List, [], ◌∷◌, ◌++◌, Bool, true, false, is_some}
use Rattle.std.specs.Prelude.{Result, IfOk, IsOk, OnOk, Option, None, Some}
use Rattle.city_model.specs.declared.mode.Mode.{Mode}
use Rattle.city_model.specs.declared.mode.Mode.TheVariants.{Exclusive}
use Rattle.city_locks.specs.declared.answer.Answer.{Answer}
use Rattle.city_locks.specs.declared.answer.Answer.TheVariants.{Granted, Wait, Die}
use Rattle.city_locks.specs.Locks.{Locks, answer_of, mode_of, Lawful}
use Rattle.city_model.specs.Standing.{Held, Lock, AllHeld, covers, locks_id, locks_id_exclusively}

-- how a stamp holds each id
abbrev pub held_in : Locks → ℕ → Held
held_in locks stamp id = mode_of locks stamp id

abbrev pub go_on : Answer → Answer → Answer
go_on Granted next = next
go_on Wait next = Wait
go_on Die next = Die

-- the answer of the first lock not granted, or Granted
abbrev pub first_answer : Locks → ℕ → List Lock → Answer
first_answer locks stamp [] = Granted
first_answer locks stamp (l ∷ ls) =
    go_on (answer_of locks stamp l.0 l.1) (first_answer locks stamp ls)

abbrev pub unless_granted : Answer → Lock → Option Lock → Option Lock
unless_granted Granted l next = next
unless_granted Wait l next = Some l
unless_granted Die l next = Some l

-- the first lock not granted
abbrev pub first_ungranted : Locks → ℕ → List Lock → Option Lock
first_ungranted locks stamp [] = None
first_ungranted locks stamp (l ∷ ls) =
    unless_granted (answer_of locks stamp l.0 l.1) l (first_ungranted locks stamp ls)

abbrev pub first_if : Answer → Lock → List Lock → List Lock
first_if Granted l ls = l ∷ ls
first_if Wait l ls = []
first_if Die l ls = []

-- the locks before the first not granted
abbrev pub granted_before : Locks → ℕ → List Lock → List Lock
granted_before locks stamp [] = []
granted_before locks stamp (l ∷ ls) =
    first_if (answer_of locks stamp l.0 l.1) l (granted_before locks stamp ls)

abbrev pub is_wait : Answer → Bool
is_wait Granted = false
is_wait Wait = true
is_wait Die = false

-- the stamp gained locks on ids of these, in no stronger mode, and lost none; the others keep theirs, and the answers
-- to the stamp stay
pub record MoreLocks (stamp : ℕ) (ls : List Lock) (old new : Locks) : Type 0 where
  pub others : (t : ℕ) (id : List ℕ) → (stamp == t) ≡ false → mode_of new t id ≡ mode_of old t id
  pub more : (id : List ℕ) (mode : Mode) → covers (held_in old stamp id) mode ≡ true
      → covers (held_in new stamp id) mode ≡ true
  pub only : (id : List ℕ) → locks_id ls id ≡ false → mode_of new stamp id ≡ mode_of old stamp id
  pub modes : (id : List ℕ) → covers (held_in new stamp id) Exclusive ≡ true
      → (covers (held_in old stamp id) Exclusive ≡ true) ⊎ (locks_id_exclusively ls id ≡ true)
  pub lawful : Lawful old → Lawful new
  pub answers : (id : List ℕ) (mode : Mode) → answer_of new stamp id mode ≡ answer_of old stamp id mode

-- the stamp gained the first few of these locks, perhaps none or all, in their order, and no others
pub record GainsFirst (stamp : ℕ) (ls : List Lock) (old new : Locks) : Type 0 where
  pub gained : List Lock
  pub left : List Lock
  pub parts : ls ≡ gained ++ left
  pub held : AllHeld (held_in new stamp) gained
  pub locks : MoreLocks stamp gained old new

-- on Wait, the stamp is older than another with P; on Die, it is younger than one
abbrev pub IsBlocked : (ℕ → Type 0) → ℕ → Answer → Type 0
IsBlocked P stamp Granted = Unit {0}
IsBlocked P stamp Wait = (t : ℕ) × (stamp < t) × P t
IsBlocked P stamp Die = (t : ℕ) × (t < stamp) × P t

abbrev pub HoldsLock : Locks → ℕ → Type 0
HoldsLock locks stamp = (id : List ℕ) × (is_some (mode_of locks stamp id) ≡ true)

-- The locks asked for in turn: the answer is of the first not granted, and the locks before it are gained; if memory
-- runs out, the first few of them.
pub record Asked {E : Type 0} (stamp : ℕ) (ls : List Lock) (result : Result Answer E)
    (old new : Locks) : Type 0 where
  pub answer : IfOk result (λ a. a ≡ first_answer old stamp ls)
  pub gains : GainsFirst stamp (granted_before old stamp ls) old new
  pub held : OnOk result (AllHeld (held_in new stamp) (granted_before old stamp ls))
  pub blocked : IfOk result (IsBlocked (HoldsLock old) stamp)
  -- it allocates only for a lock not yet held by the stamp
  pub answered : AllHeld (held_in old stamp) (granted_before old stamp ls) → IsOk result

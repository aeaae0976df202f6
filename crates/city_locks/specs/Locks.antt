-- A lock table as contracts see it: each locked id with its holders, ids in byte order.
use Rattle.std.specs.Prelude.{◌≡◌, ◌≢◌, ℕ, List, [], Option, None, Some, unwrap_or}
use Rattle.std.specs.Map.{lookup}
use Rattle.std.specs.Ordering.{nat_cmp}
use Rattle.std.specs.Cmp.Lexicographic.{slice_cmp}
use Rattle.std.specs.BTreeMap.{is_at}
use Rattle.city_model.specs.declared.mode.Mode.{Mode}
use Rattle.city_model.specs.declared.mode.Mode.TheVariants.{Exclusive}
use Rattle.city_locks.specs.declared.answer.Answer.{Answer}
use Rattle.city_locks.specs.declared.holders.Holder.{Holder}
use Rattle.city_locks.specs.Holders.{answer_among, mode_among, Once}

abbrev pub Locks : Type 0
Locks = List (List ℕ × List Holder)

-- the holders of the id
abbrev pub holders_of : Locks → List ℕ → List Holder
holders_of locks id = unwrap_or (lookup (is_at (slice_cmp nat_cmp id)) locks) []

-- the answer to an asker of the id
abbrev pub answer_of : Locks → ℕ → List ℕ → Mode → Answer
answer_of locks stamp id mode = answer_among (holders_of locks id) stamp mode

-- the mode of the stamp at the id
abbrev pub mode_of : Locks → ℕ → List ℕ → Option Mode
mode_of locks stamp id = mode_among (holders_of locks id) stamp

-- each id has one exclusive holder and no other, or shared holders only
abbrev pub Lawful : Locks → Type 0
Lawful locks = (s t : ℕ) (id : List ℕ) → s ≢ t
    → mode_of locks s id ≡ Some Exclusive → mode_of locks t id ≡ None

-- each stamp has at most one entry at an id
abbrev pub HoldOnce : Locks → Type 0
HoldOnce locks = (id : List ℕ) → Once (holders_of locks id)

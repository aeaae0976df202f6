-- The wait-die rule, by the stamps in conflict with an asker.
use Rattle.std.specs.Prelude.{◌≡◌, ◌≢◌, ℕ, ◌<◌, ◌↔◌, ◌||◌, true, List, Some}
use Rattle.city_model.specs.declared.mode.Mode.{Mode}
use Rattle.city_locks.specs.declared.answer.Answer.{Answer}
use Rattle.city_locks.specs.declared.answer.Answer.TheVariants.{Granted, Wait, Die}
use Rattle.city_model.specs.Mode.{is_exclusive}
use Rattle.city_locks.specs.Locks.{Locks, mode_of}

-- t is another holder of the id than the asker, and the mode asked for or the one held is exclusive
pub record IsInConflict (locks : Locks) (stamp : ℕ) (id : List ℕ) (mode : Mode) (t : ℕ) : Type 0 where
  pub other : t ≢ stamp
  pub held : Mode
  pub holds : mode_of locks t id ≡ Some held
  pub clash : (is_exclusive mode || is_exclusive held) ≡ true

-- the answer to the stamp, if the stamps in `Conflict` are in conflict with it
pub record IsWaitDie (Conflict : ℕ → Type 0) (stamp : ℕ) (answer : Answer) : Type 0 where
  -- granted exactly if no stamp is in conflict
  pub granted : (answer ≡ Granted) ↔ ((t : ℕ) → Conflict t → ⊥)
  -- wait exactly if some stamp is, and the asker is older than all of them
  pub wait : (answer ≡ Wait) ↔ (((t : ℕ) × Conflict t) × ((t : ℕ) → Conflict t → stamp < t))
  -- die exactly if some stamp in conflict is older than the asker
  pub die : (answer ≡ Die) ↔ ((t : ℕ) × (Conflict t × (t < stamp)))

-- The youngest open transaction.
use Rattle.city_scheduler.proofs.Prelude.{◌≡◌, ◌<◌, ◌≤◌, ℕ, false, List, length, Option, Some, ap, arith, MatchOption}
use Rattle.city_scheduler.proofs.Prelude.{Progress, Ended, ended_progress, phase_in, is_ended, is_open_phase}
use Rattle.city_scheduler.proofs.Prelude.{IsYoungestBelow}
use Rattle.std.proofs.Common.{None, ⊎_elim}
use Rattle.std.proofs.lemmas.Bool.{cases_lt}
use Rattle.std.proofs.lemmas.List.{get_or_past}
use Rattle.city_scheduler.specs.internal.Ready.{IsYoungest}

past : (ps : List Progress) (k : ℕ) → length ps ≤ k → phase_in ps k ≡ Ended
past ps k le = ap (λ (p : Progress). p.phase) (get_or_past ps k ended_progress le)

pub open_within : (ps : List Progress) (k : ℕ) → is_ended (phase_in ps k) ≡ false → k < length ps
open_within ps k h = grind (arith, past)

pub youngest_of_all : (ps : List Progress) (found : Option ℕ) (stamp i : ℕ) → length ps ≤ i
    → MatchOption found ((k : ℕ) → k < i → is_open_phase (phase_in ps k) ≡ false)
    (λ m. (m < i) × IsYoungestBelow ps i m stamp)
    → MatchOption found ((k : ℕ) → is_open_phase (phase_in ps k) ≡ false) (λ m. (m < length ps) × IsYoungest ps m)
youngest_of_all ps None stamp i le h =
    λ k. ⊎_elim (λ lt. h k (omega arith)) (λ out. ap is_open_phase (past ps k out)) (cases_lt k (length ps))
youngest_of_all ps (Some m) stamp i le h = (
  open_within ps m (ap is_ended h.1.is),
  record {
    stamp = stamp;
    since = h.1.since;
    is = h.1.is;
    youngest = λ k other began e. h.1.youngest k other began (omega (arith, open_within ps k (ap is_ended e))) e;
  },
)

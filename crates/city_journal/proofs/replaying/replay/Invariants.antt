use Rattle.std.proofs.Common.{◌≡◌, ◌≤◌, ◌-◌, ℕ, List, length, drop}
use Rattle.city_model.specs.CityMap.{CityMap, object_at}
use Rattle.city_model.specs.Relations.{IsLawful}
use Rattle.city_journal.specs.Replays.{Replays, scripts_of}
use Rattle.city_journal.proofs.replaying.replay.Given as goal

-- what the rest leads to, all lead to
abbrev pub invariant-loop-at : goal.invariant-loop-at
invariant-loop-at l = (l.at ≤ length l.commits) × IsLawful (object_at l.city.1) × (l.city.0 ≡ l.initial.city.0)
    × ((ns : List ℕ) (m : CityMap) → Replays l.decimals ns (scripts_of (drop l.at l.commits)) (object_at l.city.1) m
    → (all : List ℕ) × Replays l.decimals all (scripts_of l.commits) (object_at l.initial.city.1) m)

abbrev pub decreases-loop-at : goal.decreases-loop-at
decreases-loop-at l = length l.commits - l.at

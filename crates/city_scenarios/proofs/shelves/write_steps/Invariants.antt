use Rattle.std.proofs.Common.{◌≡◌}
use Rattle.city_model.specs.CityMap.{CityMap, object_at}
use Rattle.city_model.specs.Runs.{after_change}
use Rattle.city_scenarios.proofs.shelves.write_steps.Given as goal

abbrev pub invariant-loop-line : goal.invariant-loop-line
invariant-loop-line l = (m : CityMap) → object_at l.fn.city.1 ≡ after_change m l.fn.change
    → object_at l.city.1 ≡ after_change m l.change

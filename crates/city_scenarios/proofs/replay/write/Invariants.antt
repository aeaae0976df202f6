use Rattle.std.proofs.Common.{◌≡◌}
use Rattle.std.specs.Vec.Iter.{into_iter_items}
use Rattle.city_model.specs.CityMap.{object_at}
use Rattle.city_model.specs.Runs.{after_change}
use Rattle.city_scenarios.proofs.replay.write.Given as goal

abbrev pub invariant-loop-id : goal.invariant-loop-id
invariant-loop-id l =
    after_change (object_at l.city.1) (into_iter_items l.id-iterator) ≡ after_change (object_at l.fn.city.1) l.fn.change

use Rattle.city_model.specs.CityMap.{object_at}
use Rattle.city_model.specs.Relations.{IsSound}
use Rattle.city_scenarios.proofs.replay.play.Given as goal

abbrev pub invariant-loop-number : goal.invariant-loop-number
invariant-loop-number l = IsSound (object_at l.city.1)

use Rattle.city_model.specs.CityMap.{object_at}
use Rattle.city_model.specs.Relations.{IsSound}
use Rattle.city_scenarios.proofs.replay.replay_scripts.Given as goal

abbrev pub invariant-loop-end : goal.invariant-loop-end
invariant-loop-end l = IsSound (object_at l.city.1)

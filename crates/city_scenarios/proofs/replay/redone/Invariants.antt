use Rattle.city_model.specs.CityMap.{object_at}
use Rattle.city_model.specs.Relations.{IsSound}
use Rattle.city_scenarios.proofs.replay.redone.Given as goal

abbrev pub invariant-loop-command : goal.invariant-loop-command
invariant-loop-command l = IsSound (object_at l.city.1)

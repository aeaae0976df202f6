use Rattle.std.proofs.Common.{sym, subst}
use Rattle.city_model.specs.CityMap.{CityValue, object_at}
use Rattle.city_model.specs.Relations.{IsSound}
use Rattle.city_scenarios.proofs.replay.redone.Goals as goal

pub loop-command-init : goal.loop-command-init
loop-command-init c = subst (λ (city : CityValue). IsSound (object_at city.1)) (sym c.in_ok-city.ensures) c.requires

use Rattle.std.proofs.Common.{sym, subst}
use Rattle.city_model.specs.CityMap.{CityValue, object_at}
use Rattle.city_model.specs.Relations.{IsLawful}
use Rattle.city_scenarios.proofs.live_lists.hands_over.Goals as goal

pub new-requires : goal.new-requires
new-requires c = subst (λ (city : CityValue). IsLawful (object_at city.1)) (sym c.in_ok-copied.ensures) c.requires

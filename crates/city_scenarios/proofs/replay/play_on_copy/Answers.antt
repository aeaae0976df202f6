use Rattle.std.proofs.Common.{sym, subst}
use Rattle.city_model.specs.CityMap.{CityValue, object_at}
use Rattle.city_model.specs.Relations.{IsSound}
use Rattle.city_scenarios.proofs.replay.play_on_copy.Goals as goal

pub play-requires : goal.play-requires
play-requires c =
    record {
      opening = c.requires;
      sound = subst (λ (city : CityValue). IsSound (object_at city.1)) (sym c.in_ok-copy.ensures) c.requires;
    }

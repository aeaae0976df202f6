use Rattle.city_serve.proofs.Prelude.{subst, sym}
use Rattle.city_model.specs.CityMap.{CityValue, object_at}
use Rattle.city_model.specs.Relations.{IsLawful}
use Rattle.city_serve.proofs.texts.Texts.keep.Goals as goal

pub open-requires : goal.open-requires
open-requires c = subst (λ (it : CityValue). IsLawful (object_at it.1)) (sym c.in-Ok.ensures) c.requires

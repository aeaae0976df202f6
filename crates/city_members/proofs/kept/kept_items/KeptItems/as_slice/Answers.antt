use Rattle.city_members.proofs.Prelude.{◌∙◌, ap}
use Rattle.city_members.specs.internal.KeptValues.{items_data}
use Rattle.city_members.proofs.kept.kept_items.KeptItems.as_slice.Goals as goal

pub returns : goal.returns
returns c = ap items_data c.as_slice.ensures.value ∙ c.self.view_is

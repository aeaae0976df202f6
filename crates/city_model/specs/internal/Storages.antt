-- The ids of a list, few or many.
use Rattle.std.specs.Prelude.{ℕ, List, []}
use Rattle.std.specs.Arc.{arc_value}
use Rattle.city_model.specs.declared.shared_ids.Storage.{Storage}
use Rattle.city_model.specs.declared.shared_ids.Storage.TheVariants.{Empty, Few, Many}

abbrev pub stored : Storage → List (List ℕ)
stored Empty = []
stored (Few ids) = arc_value ids
stored (Many ids) = arc_value ids

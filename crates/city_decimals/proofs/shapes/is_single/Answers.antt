use Rattle.city_decimals.proofs.Prelude.{rules, ◌≡◌, ◌≢◌, List, [], ◌∷◌, length, false, refl, array, items_view, Value}
use Rattle.json.proofs.Trees.{view-Array}
use Rattle.city_decimals.specs.Shapes.{is_single}
use Rattle.city_decimals.proofs.shapes.is_single.Goals as goal

several : {A : Type 0} (vs : List (Value A)) → length vs ≢ 1 → false ≡ is_single (array (items_view vs))
several [] h = refl
several (v ∷ []) h = absurd (h refl)
several (v ∷ w ∷ vs) h = refl

pub returns-else-len-eq1 : goal.returns-else-len-eq1
returns-else-len-eq1 c = search (rules, view-Array, several)

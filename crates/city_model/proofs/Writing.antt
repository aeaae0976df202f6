-- Lookups in a city's objects after a change is written into them, and the map after one change more.
use Rattle.city_model.proofs.Prelude.{arith, ◌≡◌, ℕ, List, [], ◌∷◌, ◌++◌, Option, Some, None, refl, Object, Objects}
use Rattle.city_model.proofs.Prelude.{CityMap, object_at, changed, Change, after_change}
use Rattle.city_model.specs.Runs.{after_changes}
use Rattle.city_model.specs.Writing.{objects_with, objects_after}
use Rattle.city_model.proofs.Objects.{at_insert, at_remove}

-- maps with equal lookups are the same
pub same_map : (m n : CityMap) → ((q : List ℕ) → m q ≡ n q) → m ≡ n
same_map m n alike = λ i q. alike q i

pub at_with : (objects : Objects) (id : List ℕ) (w : Option Object)
    → object_at (objects_with objects id w) ≡ changed (object_at objects) id w
at_with objects id None = at_remove objects id
at_with objects id (Some o) = at_insert objects id o

pub at_after : (objects : Objects) (change : Change)
    → object_at (objects_after objects change) ≡ after_change (object_at objects) change
at_after objects [] = refl
at_after objects (w ∷ ws) = grind (arith, at_after (objects_with objects w.0 w.1) ws, at_with objects w.0 w.1)

pub shown_more : (m : CityMap) (cs : List Change) (c : Change)
    → after_changes m (cs ++ c ∷ []) ≡ after_change (after_changes m cs) c
shown_more m [] c = refl
shown_more m (d ∷ cs) c = shown_more (after_change m d) cs c

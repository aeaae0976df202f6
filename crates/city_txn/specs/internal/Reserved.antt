-- Objects and images at reserved ids.
use Rattle.std.specs.Prelude.{◌≡◌, ℕ, Bool, List, true, Option, is_some, if◌then◌else◌}
use Rattle.std.specs.Ordering.{nat_cmp}
use Rattle.std.specs.Cmp.Lexicographic.{slice_cmp}
use Rattle.std.specs.BTreeMap.{IsOrdered}
use Rattle.city_model.specs.CityMap.{CityValue, CityMap, object_at}
use Rattle.city_txn.specs.declared.undo_image.UndoImage.{UndoImage}
use Rattle.city_txn.specs.internal.Transactions.{Images, image_at}

-- an object or a placeholder stands at the id, so it is set without memory
abbrev pub HasRoom : CityValue → List ℕ → Type 0
HasRoom city id = is_some (object_at city.1 id) ≡ true

-- at the ids these objects stand now, with these images; elsewhere nothing changed
pub record Became (ids : List ℕ → Bool) (objects : CityMap) (images : List ℕ → Option UndoImage)
    (city city_new : CityValue) (held held_new : Images) : Type 0 where
  pub frame : city_new.0 ≡ city.0
  pub object_is : (q : List ℕ) → object_at city_new.1 q ≡ (if ids q then objects q else object_at city.1 q)
  pub image_is : (q : List ℕ) → image_at held_new q ≡ (if ids q then images q else image_at held q)
  pub ordered : IsOrdered (slice_cmp nat_cmp) held → IsOrdered (slice_cmp nat_cmp) held_new

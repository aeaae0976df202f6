-- The city after the end of a transaction.
use Rattle.std.specs.Prelude.{◌≡◌, ℕ, List, true, Option, None, Some, is_some, if◌then◌else◌}
use Rattle.city_model.specs.declared.object.Object.{Object}
use Rattle.city_model.specs.CityMap.{CityMap, CityValue, object_at}
use Rattle.city_txn.specs.declared.end.End.{End}
use Rattle.city_txn.specs.declared.end.End.TheVariants.{Commit, RollBack}
use Rattle.city_txn.specs.declared.undo_image.UndoImage.{UndoImage}
use Rattle.city_txn.specs.internal.Images.{seen_under, before_image}
use Rattle.city_txn.specs.internal.State.{State, store_committed, store_view}
use Rattle.city_txn.specs.internal.Transactions.{Images, image_at}

-- the object at an id after the end, from the object and the image there: the transaction's, or the previous one
abbrev pub left_at_end : End → Option Object → Option UndoImage → Option Object
left_at_end end x None = x
left_at_end Commit x (Some i) = seen_under x i
left_at_end RollBack x (Some i) = before_image x i

-- the committed city after the end
abbrev pub map_at_end : End → State → ℕ → CityMap
map_at_end Commit v stamp = store_view v stamp
map_at_end RollBack v stamp = store_committed v

-- all ids with an image have ended, except the ids that still have it
pub record EndedBut (end : End) (city city_new : CityValue) (held held_new : Images) : Type 0 where
  pub frame : city_new.0 ≡ city.0
  pub objects : (q : List ℕ) → object_at city_new.1 q ≡ (if is_some (image_at held_new q) then object_at city.1 q
      else left_at_end end (object_at city.1 q) (image_at held q))
  pub images : (q : List ℕ) → is_some (image_at held_new q) ≡ true → image_at held_new q ≡ image_at held q

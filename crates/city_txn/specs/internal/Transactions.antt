-- Undo images and reservations, as two maps.
use Rattle.std.specs.Prelude.{ℕ, List, [], Option, unwrap_or}
use Rattle.std.specs.Map.{lookup}
use Rattle.std.specs.Ordering.{nat_cmp}
use Rattle.std.specs.Cmp.Lexicographic.{slice_cmp}
use Rattle.std.specs.BTreeMap.{BTreeMap, get, is_at}
use Rattle.city_txn.specs.declared.undo_image.UndoImage.{UndoImage}

abbrev pub Images : Type 0
Images = BTreeMap (List ℕ) UndoImage

abbrev pub image_at : Images → List ℕ → Option UndoImage
image_at images id = get (slice_cmp nat_cmp) images id

-- the open transactions by their stamps, each with its reserved ids
abbrev pub Reservations : Type 0
Reservations = List (ℕ × List (List ℕ))

-- the ids of an open transaction
abbrev pub listed_by : Reservations → ℕ → Option (List (List ℕ))
listed_by opened stamp = lookup (is_at (nat_cmp stamp)) opened

abbrev pub reservations_of : Reservations → ℕ → List (List ℕ)
reservations_of opened stamp = unwrap_or (listed_by opened stamp) []

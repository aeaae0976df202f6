-- One city as the open transactions have written it, with an undo image of each written id.
use Rattle.std.specs.Prelude.{◌≡◌, ◌==◌, ℕ, Bool, true, false, List, Option, None, Some, is_some}
use Rattle.std.specs.Ordering.{nat_cmp}
use Rattle.std.specs.Cmp.Lexicographic.{slice_cmp}
use Rattle.std.specs.BTreeMap.{IsOrdered}
use Rattle.std.specs.FinMap.{entries, from_sorted}
use Rattle.city_model.specs.CityMap.{CityValue, object_at, has_id}
use Rattle.city_txn.specs.declared.store.Store.TheInside.{Inside}
use Rattle.city_txn.specs.UndoLog.{log_of, has_before}
use Rattle.city_txn.specs.Writes.{made_by}
use Rattle.city_txn.specs.internal.State.{State}
use Rattle.city_txn.specs.internal.Transactions.{Images, image_at, reservations_of}
use Rattle.city_txn.specs.internal.Images.{committed_at, write_at, writer_of, is_orphan_written}

-- the committed city is the one city with all images put back
abbrev pub state_of : Inside → State
state_of a = record {
  frame = a.city.0;
  city = from_sorted (made_by (λ id o. committed_at (Some o) (image_at a.transactions.images id)) (entries a.city.1));
  writes = made_by (λ id i. write_at (object_at a.city.1 id) (Some i)) (a.transactions.images.entries);
  opened = a.transactions.reservations.entries;
  logs = a.logs;
}

abbrev pub is_writer : ℕ → Option ℕ → Bool
is_writer stamp None = false
is_writer stamp (Some t) = t == stamp

-- if no orphan may have been written, none was
unfoldable pub IsPlain : Bool → CityValue → Images → Type 0
IsPlain may city images = may ≡ false → (id : List ℕ)
    → is_orphan_written (write_at (object_at city.1 id) (image_at images id)) ≡ false

-- each image is of an id in the city (maybe as a placeholder), which its transaction, and no other, has reserved; the
-- ids in a log are reserved by its transaction; and if no orphan may have been written, none was
pub record IsInPlace (a : Inside) : Type 0 where
  pub ordered : IsOrdered (slice_cmp nat_cmp) a.transactions.images
  pub has_room : (id : List ℕ) → is_some (image_at a.transactions.images id) ≡ true
      → is_some (object_at a.city.1 id) ≡ true
  pub listed : (stamp : ℕ) (id : List ℕ)
      → has_id (reservations_of a.transactions.reservations.entries stamp) id
      ≡ is_writer stamp (writer_of (image_at a.transactions.images id))
  pub noted : (stamp : ℕ) (id : List ℕ) → has_before (log_of a.logs stamp) id ≡ true
      → has_id (reservations_of a.transactions.reservations.entries stamp) id ≡ true
  pub plain : IsPlain a.may_have_orphan a.city a.transactions.images

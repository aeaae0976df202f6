-- What the trees of all objects show: the loop from the members of a map, and the objects built of it.
use Rattle.city_doc.proofs.Prelude.{◌≡◌, ℕ, List, ◌∷◌, ◌++◌, map, Some, None, Less, [], nat_cmp, refl, sym, arith}
use Rattle.city_doc.proofs.Prelude.{subst, append-nil, append_assoc, ◌∙◌, AllByRecursion, keys_of, slice_cmp}
use Rattle.city_doc.proofs.Prelude.{option_map_id, Members, no_members, member, view, members_view, Entries, Object}
use Rattle.city_doc.proofs.Prelude.{Point, lenient_map_of, map_grown, read_entries, read_of}
use Rattle.std.proofs.Common.{option_map, String, Global, string_bytes, string_cmp}
use Rattle.std.specs.List.Sorted.{IsStrictlySortedBy}
use Rattle.serde_json.proofs.Views.{Entry}
use Rattle.city_writer.proofs.Laws.{keys_of_push}
use Rattle.city_doc.specs.declared.document.indexed.ReadObject.{ReadObject}
use Rattle.city_doc.specs.internal.document.ReadObjects.{ReadEntries, built_in, all_built}

-- the objects that can be built are those of the map
pub built_found : (points : List Point) (ms : Members) (id : List ℕ)
    → built_in (read_entries points ms) id ≡ lenient_map_of points ms id
built_found points no_members id = refl
built_found points (member k d ms) id = let rest = built_found points ms id in grind arith

-- ---- the loop that reads

all_bytes : (k : String Global) (ks : List (String Global)) → AllByRecursion (λ y. string_cmp k y ≡ Less) ks
    → AllByRecursion (λ y. slice_cmp nat_cmp (string_bytes k) y ≡ Less) (map string_bytes ks)
all_bytes k [] h = tt
all_bytes k (j ∷ ks) h = (h.0, all_bytes k ks h.1)

-- keys in order are in order by their bytes
sorted_bytes : (ks : List (String Global)) → IsStrictlySortedBy string_cmp ks
    → IsStrictlySortedBy (slice_cmp nat_cmp) (map string_bytes ks)
unfolding IsStrictlySortedBy
sorted_bytes [] h = tt
sorted_bytes (k ∷ ks) h = (all_bytes k ks h.0, sorted_bytes ks h.1)

-- the objects of `all` are the done ones, and then the rest
pub record IsReading (points : List Point) (all : Members) (done : ReadEntries) (rest : List Entry) : Type 0 where
  pub read : read_entries points all ≡ done ++ read_entries points (members_view rest)
  pub sorted : IsStrictlySortedBy (slice_cmp nat_cmp) (keys_of done ++ map string_bytes (keys_of rest))

pub begins : (points : List Point) (es : List Entry) → IsStrictlySortedBy string_cmp (keys_of es)
    → IsReading points (members_view es) [] es
begins points es h = record { read = refl; sorted = sorted_bytes (keys_of es) h }

pub goes_on : (points : List Point) (all : Members) (done : ReadEntries) (e : Entry) (left : List Entry)
    (r : ReadObject) → r ≡ read_of points (view e.1) → IsReading points all done (e ∷ left)
    → IsReading points all (done ++ (string_bytes e.0, r) ∷ []) left
goes_on points all done e left r is h = rw is (record {
  read = h.read ∙ sym (append_assoc done ((string_bytes e.0, read_of points (view e.1)) ∷ [])
      (read_entries points (members_view left)));
  sorted = subst (IsStrictlySortedBy (slice_cmp nat_cmp))
      (keys_of_push done (string_bytes e.0) (read_of points (view e.1)) (map string_bytes (keys_of left))) h.sorted;
})

pub ends : (points : List Point) (all : Members) (done : ReadEntries) → IsReading points all done []
    → done ≡ read_entries points all
ends points all done h = sym (h.read ∙ append-nil done)

-- ---- the loop that builds

-- the objects of `all` are the done ones, and then the rest
pub record IsBuilding (all : ReadEntries) (done : Entries) (rest : ReadEntries) : Type 0 where
  pub built : all_built all ≡ option_map (λ es. done ++ es) (all_built rest)
  pub sorted : IsStrictlySortedBy (slice_cmp nat_cmp) (keys_of done ++ keys_of rest)

pub building_begins : (all : ReadEntries) → IsStrictlySortedBy (slice_cmp nat_cmp) (keys_of all)
    → IsBuilding all [] all
building_begins all h = record { built = sym (option_map_id (all_built all)); sorted = h }

pub building_goes_on : (all : ReadEntries) (done : Entries) (id : List ℕ) (r : ReadObject) (left : ReadEntries)
    (o : Object) → r.object ≡ Some o → IsBuilding all done ((id, r) ∷ left)
    → IsBuilding all (done ++ (id, o) ∷ []) left
building_goes_on all done id r left o is h = record {
  built = rw (h.built, is) (map_grown (all_built left) done (id, o));
  sorted = subst (IsStrictlySortedBy (slice_cmp nat_cmp)) (keys_of_push done id o (keys_of left)) h.sorted;
}

pub building_stops : (all : ReadEntries) (done : Entries) (id : List ℕ) (r : ReadObject) (left : ReadEntries)
    → r.object ≡ None → IsBuilding all done ((id, r) ∷ left) → None ≡ all_built all
building_stops all done id r left is h = rw (h.built, is) refl

pub building_ends : (all : ReadEntries) (done : Entries) → IsBuilding all done [] → Some done ≡ all_built all
building_ends all done h = rw (h.built, append-nil) refl

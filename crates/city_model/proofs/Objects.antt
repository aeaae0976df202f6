-- The finite map of a city's objects: its entries, and its lookups after a change.
use Rattle.city_model.proofs.Prelude.{arith, ◌≡◌, ℕ, cond, List, [], ◌∷◌, length, Option, Some, None, Ordering, Less}
use Rattle.city_model.proofs.Prelude.{ap, sym, ◌∙◌, T, nat_cmp, AllByRecursion, slice_cmp, keys_of, lookup, is_at}
use Rattle.city_model.proofs.Prelude.{entries, find, is_sorted, nat_list_cmp_total, Object, Objects, CityMap, Entries}
use Rattle.city_model.proofs.Prelude.{object_at, found_in, changed, same_id}
use Rattle.std.specs.List.Sorted.{IsStrictlySortedBy}
use Rattle.std.specs.FinMap.{len, insert, remove, empty, from_sorted, entries_sorted, entries-from_sorted, get-entries}
use Rattle.std.specs.FinMap.{get-empty, get-insert, get-remove, len-entries, empty_of_len, same_map}
use Rattle.std.specs.FinMap.{slice_cmp-IsAntisymmetric, nat_cmp-IsAntisymmetric}
use Rattle.std.specs.FinMap.Entries.{below_all}
use Rattle.city_model.specs.declared.frame.Frame.{Frame}
use Rattle.city_model.specs.CityMap.{CityValue}
use Rattle.city_members.proofs.Ids.{same_id_back}

-- ---- two forms of one order, and of one look-up

module _ {K X : Type 0} (R : K → K → Ordering) where
  below_them : (k : K) (es : List (K × X)) → AllByRecursion (λ y. R k y ≡ Less) (keys_of es) → T (below_all R k es)
  below_them k [] h = tt
  below_them k (e ∷ es) h = grind (arith, below_them k es)

  them_above : (k : K) (es : List (K × X)) → T (below_all R k es) → AllByRecursion (λ y. R k y ≡ Less) (keys_of es)
  them_above k [] h = tt
  them_above k (e ∷ es) h = grind (arith, them_above k es)

  pub in_order : (es : List (K × X)) → IsStrictlySortedBy R (keys_of es) → T (is_sorted R es)
  unfolding IsStrictlySortedBy
  in_order [] h = tt
  in_order (e ∷ es) h = grind (arith, below_them e.0 es, in_order es)

  pub ascending : (es : List (K × X)) → T (is_sorted R es) → IsStrictlySortedBy R (keys_of es)
  unfolding IsStrictlySortedBy
  ascending [] h = tt
  ascending (e ∷ es) h = grind (arith, them_above e.0 es, ascending es)

  pub find_is_lookup : (q : K) (es : List (K × X)) → find R q es ≡ lookup (is_at (R q)) es
  find_is_lookup q es = grind arith

-- ---- the entries

pub at_entries : (objects : Objects) → object_at objects ≡ found_in (entries objects)
at_entries objects = search (arith, get-entries, find_is_lookup)

pub entries_ascend : (objects : Objects) → IsStrictlySortedBy (slice_cmp nat_cmp) (keys_of (entries objects))
entries_ascend objects = ascending (slice_cmp nat_cmp) (entries objects) (entries_sorted objects)

pub entries_of : (es : Entries) → IsStrictlySortedBy (slice_cmp nat_cmp) (keys_of es)
    → entries (from_sorted {R = slice_cmp nat_cmp} es) ≡ es
entries_of es ascend = entries-from_sorted (slice_cmp nat_cmp) es (in_order (slice_cmp nat_cmp) es ascend)

pub at_sorted : (es : Entries) → IsStrictlySortedBy (slice_cmp nat_cmp) (keys_of es)
    → object_at (from_sorted es) ≡ found_in es
at_sorted es ascend = at_entries (from_sorted es) ∙ ap found_in (entries_of es ascend)

pub len_of : (es : Entries) → IsStrictlySortedBy (slice_cmp nat_cmp) (keys_of es)
    → len (from_sorted {R = slice_cmp nat_cmp} es) ≡ length es
len_of es ascend = search (arith, len-entries, entries_of)

pub of_nothing : (es : Entries) → es ≡ [] → ◌≡◌ {A = Objects} (from_sorted es) empty
of_nothing es nothing = ap (λ (xs : Entries). from_sorted xs) nothing
    ∙ empty_of_len (from_sorted []) (len_of [] (ascending {X = Object} (slice_cmp nat_cmp) [] tt))

-- a city's lookup of an id
pub at_viewed : (es : Entries) (frame : Frame) (v : CityValue) (id : List ℕ)
    → IsStrictlySortedBy (slice_cmp nat_cmp) (keys_of es) → (frame, from_sorted es) ≡ v
    → found_in es id ≡ object_at v.1 id
at_viewed es frame v id ascend is =
    ap (λ (m : CityMap). m id) (sym (at_sorted es ascend)) ∙ ap (λ (w : CityValue). object_at w.1 id) is

-- ---- answers

-- objects with equal lookups are the same
pub same_objects : (m n : Objects) → object_at m ≡ object_at n → m ≡ n
same_objects m n same =
    same_map nat_list_cmp_total (slice_cmp-IsAntisymmetric nat_cmp-IsAntisymmetric) m n (λ q. ap (λ f. f q) same)

pub at_empty : object_at empty ≡ (λ q. None)
at_empty = λ i q. get-empty {X = Object} (slice_cmp nat_cmp) q i

turned : (m : CityMap) (id : List ℕ) (w : Option Object) (q : List ℕ) → cond (same_id q id) w (m q) ≡ changed m id w q
turned m id w q = grind (arith, same_id_back q id)

pub at_insert : (objects : Objects) (id : List ℕ) (o : Object)
    → object_at (insert objects id o) ≡ changed (object_at objects) id (Some o)
at_insert objects id o = search (arith, get-insert, nat_list_cmp_total, turned)

pub at_remove : (objects : Objects) (id : List ℕ) → object_at (remove objects id) ≡ changed (object_at objects) id None
at_remove objects id = search (arith, get-remove, nat_list_cmp_total, turned)

-- ---- entries with one set or taken out

pub at_changed : (es fs : Entries) (id : List ℕ) (w : Option Object)
    → IsStrictlySortedBy (slice_cmp nat_cmp) (keys_of es) → IsStrictlySortedBy (slice_cmp nat_cmp) (keys_of fs)
    → ((q : List ℕ) → found_in fs q ≡ changed (found_in es) id w q)
    → object_at (from_sorted fs) ≡ changed (object_at (from_sorted es)) id w
at_changed es fs id w ascend still is = rw (at_sorted fs still, at_sorted es ascend) (λ i q. is q i)

pub view_changed : (es fs : Entries) (frame : Frame) (v : CityValue) (id : List ℕ) (w : Option Object)
    → IsStrictlySortedBy (slice_cmp nat_cmp) (keys_of es) → IsStrictlySortedBy (slice_cmp nat_cmp) (keys_of fs)
    → ((q : List ℕ) → found_in fs q ≡ changed (found_in es) id w q) → (frame, from_sorted es) ≡ v
    → object_at (from_sorted fs) ≡ changed (object_at v.1) id w
view_changed es fs frame v id w ascend still is same = rw (← same) (at_changed es fs id w ascend still is)

pub inserted : (es fs : Entries) (id : List ℕ) (o : Object) → IsStrictlySortedBy (slice_cmp nat_cmp) (keys_of es)
    → IsStrictlySortedBy (slice_cmp nat_cmp) (keys_of fs)
    → ((q : List ℕ) → found_in fs q ≡ changed (found_in es) id (Some o) q)
    → ◌≡◌ {A = Objects} (from_sorted fs) (insert (from_sorted es) id o)
inserted es fs id o ascend still is = search (arith, same_objects, at_changed, at_insert)

pub removed : (es fs : Entries) (id : List ℕ) → IsStrictlySortedBy (slice_cmp nat_cmp) (keys_of es)
    → IsStrictlySortedBy (slice_cmp nat_cmp) (keys_of fs)
    → ((q : List ℕ) → found_in fs q ≡ changed (found_in es) id None q)
    → ◌≡◌ {A = Objects} (from_sorted fs) (remove (from_sorted es) id)
removed es fs id ascend still is = search (arith, same_objects, at_changed, at_remove)

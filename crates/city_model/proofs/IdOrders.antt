-- Ids in byte order: the place of an id, and an id put in or taken out.
use Rattle.city_model.proofs.Prelude.{◌≡◌, ℕ, ◌+◌, List, [], ◌∷◌, ◌++◌, Bool, true, false, refl, sym, ap, ◌∙◌}
use Rattle.city_model.proofs.Prelude.{subst, suc, length, take, drop, arith, Ordering, or_parts}
use Rattle.city_model.proofs.Prelude.{and_from, and_parts, list_any-append, list_all, same_id, has_id, is_eq, is_lt}
use Rattle.city_model.proofs.Prelude.{nat_cmp}
use Rattle.city_model.proofs.Prelude.{slice_cmp, nat_list_cmp_total, slice_get, Some, without_id, AreDistinct}
use Rattle.city_model.proofs.Prelude.{Option, None, is_some}
use Rattle.city_model.proofs.IdLists.{not_both, without_middle, is_less}
use Rattle.std.proofs.Common.{IfSome, IfNone}
use Rattle.std.specs.Cmp.{IsStrictWeakOrder}
use Rattle.std.specs.Ordering.{ordering_reverse}
use Rattle.std.proofs.lemmas.Bool.{or_from}
use Rattle.std.proofs.lemmas.List.{take-append-drop, take-append-le, drop-append-le, length-append}
use Rattle.std.proofs.lemmas.List.Folds.{list_all-append}
use Rattle.std.proofs.lemmas.List.MinMax.{ranks_by}
use Rattle.std.proofs.Math.Seq.{take-append-add, drop-append-add}
use Rattle.city_members.proofs.Ids.{bool_cases, same_id_true, same_id_itself, below_is_apart}
use Rattle.city_model.specs.internal.IdTrees.{is_below, has_below, Ascends, IsPlace, StandsAt}

-- ---- two ids

byte_order : IsStrictWeakOrder is_below
byte_order = ranks_by nat_list_cmp_total (λ (id : List ℕ). id)

pub below_after : (x y z : List ℕ) → is_below y x ≡ false → is_below y z ≡ true → is_below x z ≡ true
below_after x y z h k = bool_cases (is_below x z) (λ e. e) (λ e. not_both (is_below y z) k (byte_order.chain y x z h e))

turned : (o : Ordering) → is_eq (ordering_reverse o) ≡ false → is_lt o ≡ false → is_lt (ordering_reverse o) ≡ true
turned o h k = grind arith

-- an id that is another one and isn't above
pub below_other : (x y : List ℕ) → same_id x y ≡ false → is_below y x ≡ false → is_below x y ≡ true
below_other x y h k =
    let e = nat_list_cmp_total.antisymm x y in
    ap is_lt e ∙ turned (slice_cmp nat_cmp y x) (sym (ap is_eq e) ∙ h) k

apart_below : (q id : List ℕ) → is_below q id ≡ true → same_id id q ≡ false
apart_below q id h = below_is_apart q id (is_less (slice_cmp nat_cmp q id) h)

pub not_back : (x y : List ℕ) → is_below x y ≡ true → is_below y x ≡ false
not_back x y h = byte_order.one_way x y h

-- ---- an id and those of a list

-- none is below an id, so none is below one that isn't above it
pub none_below_after : (ids : List (List ℕ)) (y z : List ℕ) → is_below y z ≡ false → has_below ids y ≡ false
    → has_below ids z ≡ false
none_below_after [] y z h k = refl
none_below_after (x ∷ xs) y z h k =
    let parts = or_parts (is_below x y) (has_below xs y) k in
    or_from (is_below x z) (has_below xs z) (byte_order.chain x y z parts.0 h) (none_below_after xs y z h parts.1)

none_below_both : (xs ys : List (List ℕ)) (z : List ℕ) → has_below (xs ++ ys) z ≡ false
    → (has_below xs z ≡ false) × (has_below ys z ≡ false)
none_below_both xs ys z h =
    or_parts (has_below xs z) (has_below ys z) (sym (list_any-append (λ q. is_below q z) xs ys) ∙ h)

none_below_joined : (xs ys : List (List ℕ)) (z : List ℕ) → has_below xs z ≡ false → has_below ys z ≡ false
    → has_below (xs ++ ys) z ≡ false
none_below_joined xs ys z h k =
    list_any-append (λ q. is_below q z) xs ys ∙ or_from (has_below xs z) (has_below ys z) h k

-- ---- parts of an ascending list

pub first_ascends : (xs ys : List (List ℕ)) → Ascends (xs ++ ys) → Ascends xs
first_ascends [] ys a = tt
first_ascends (x ∷ xs) ys a = ((none_below_both xs ys x a.0).0, first_ascends xs ys a.1)

pub later_ascends : (xs ys : List (List ℕ)) → Ascends (xs ++ ys) → Ascends ys
later_ascends [] ys a = a
later_ascends (x ∷ xs) ys a = later_ascends xs ys a.1

all_below : (xs : List (List ℕ)) (y : List ℕ) (ys : List (List ℕ)) (z : List ℕ) → Ascends (xs ++ y ∷ ys)
    → is_below y z ≡ true → list_all (λ q. is_below q z) xs ≡ true
all_below [] y ys z a h = refl
all_below (x ∷ xs) y ys z a h =
    let above = (none_below_both xs (y ∷ ys) x a.0).1 in
    let other = (or_parts (is_below y x) (has_below ys x) above).0 in
    and_from (is_below x z) (list_all (λ q. is_below q z) xs) (below_after x y z other h) (all_below xs y ys z a.1 h)

-- ---- the place of an id in a list of two parts

pub place_right : (xs : List (List ℕ)) (y : List ℕ) (ys : List (List ℕ)) (id : List ℕ) (n : ℕ) → is_below y id ≡ true
    → Ascends (xs ++ y ∷ ys) → IsPlace (y ∷ ys) id n → IsPlace (xs ++ y ∷ ys) id (length xs + n)
place_right xs y ys id n h a p = record {
  within = omega (arith, length-append xs (y ∷ ys), p.within);
  before =
      ap (list_all (λ q. is_below q id)) (take-append-add xs (y ∷ ys) n)
      ∙ list_all-append (λ q. is_below q id) xs (take n (y ∷ ys))
      ∙ and_from (list_all (λ q. is_below q id) xs) (list_all (λ q. is_below q id) (take n (y ∷ ys)))
      (all_below xs y ys id a h) p.before;
  after = ap (λ l. has_below l id) (drop-append-add xs (y ∷ ys) n) ∙ p.after;
}

pub place_left : (xs : List (List ℕ)) (y : List ℕ) (ys : List (List ℕ)) (id : List ℕ) (n : ℕ) → is_below y id ≡ false
    → Ascends (xs ++ y ∷ ys) → IsPlace xs id n → IsPlace (xs ++ y ∷ ys) id n
place_left xs y ys id n h a p =
    let right = later_ascends xs (y ∷ ys) a in
    let none = or_from (is_below y id) (has_below ys id) h (none_below_after ys y id h right.0) in
    record {
      within = omega (arith, length-append xs (y ∷ ys), p.within);
      before = ap (list_all (λ q. is_below q id)) (take-append-le n xs (y ∷ ys) p.within) ∙ p.before;
      after =
          ap (λ l. has_below l id) (drop-append-le n xs (y ∷ ys) p.within)
          ∙ none_below_joined (drop n xs) (y ∷ ys) id p.after none;
    }

-- ---- an id put in, and one taken out

put_in : (xs ys : List (List ℕ)) (id : List ℕ) → Ascends (xs ++ ys) → list_all (λ q. is_below q id) xs ≡ true
    → has_below ys id ≡ false → Ascends (xs ++ id ∷ ys)
put_in [] ys id a h k = (k, a)
put_in (x ∷ xs) ys id a h k =
    let below = and_parts (is_below x id) (list_all (λ q. is_below q id) xs) h in
    let none = none_below_both xs ys x a.0 in
    let last = or_from (is_below id x) (has_below ys x) (not_back x id below.0) none.1 in
    (none_below_joined xs (id ∷ ys) x none.0 last, put_in xs ys id a.1 below.1 k)

pub ascends_with : (ids : List (List ℕ)) (id : List ℕ) (at : ℕ) → Ascends ids → IsPlace ids id at
    → Ascends (take at ids ++ id ∷ drop at ids)
ascends_with ids id at a p =
    put_in (take at ids) (drop at ids) id (subst Ascends (sym (take-append-drop at ids)) a) p.before p.after

pub ascends_without : (xs : List (List ℕ)) (y : List ℕ) (ys : List (List ℕ)) → Ascends (xs ++ y ∷ ys)
    → Ascends (xs ++ ys)
ascends_without [] y ys a = a.1
ascends_without (x ∷ xs) y ys a =
    let none = none_below_both xs (y ∷ ys) x a.0 in
    (none_below_joined xs ys x none.0 (or_parts (is_below y x) (has_below ys x) none.1).1, ascends_without xs y ys a.1)

-- ---- an id that isn't there

none_among_below : (ids : List (List ℕ)) (id : List ℕ) → list_all (λ q. is_below q id) ids ≡ true
    → has_id ids id ≡ false
none_among_below [] id h = refl
none_among_below (x ∷ xs) id h =
    let below = and_parts (is_below x id) (list_all (λ q. is_below q id) xs) h in
    or_from (same_id id x) (has_id xs id) (apart_below x id below.0) (none_among_below xs id below.1)

none_among_above : (ids : List (List ℕ)) (y id : List ℕ) → is_below id y ≡ true → has_below ids y ≡ false
    → has_id ids id ≡ false
none_among_above [] y id h k = refl
none_among_above (x ∷ xs) y id h k =
    let parts = or_parts (is_below x y) (has_below xs y) k in
    or_from (same_id id x) (has_id xs id)
    (bool_cases (same_id id x)
    (λ e. not_both (is_below x y) (sym (ap (λ q. is_below q y) (same_id_true id x e)) ∙ h) parts.0) (λ e. e))
    (none_among_above xs y id h parts.1)

none_behind : (ids : List (List ℕ)) (id : List ℕ) → Ascends ids → has_below ids id ≡ false
    → ((y : List ℕ) → slice_get ids 0 ≡ Some y → same_id id y ≡ false) → has_id ids id ≡ false
none_behind [] id a h f = refl
none_behind (y ∷ ys) id a h f =
    let apart = f y refl in
    let other = (or_parts (is_below y id) (has_below ys id) h).0 in
    or_from (same_id id y) (has_id ys id) apart (none_among_above ys y id (below_other id y apart other) a.0)

-- the first id that isn't below it is another one
pub absent_from : (ids : List (List ℕ)) (id : List ℕ) (at : ℕ) → Ascends ids → IsPlace ids id at
    → ((y : List ℕ) → slice_get (drop at ids) 0 ≡ Some y → same_id id y ≡ false) → has_id ids id ≡ false
absent_from ids id at a p f =
    let whole = take-append-drop at ids in
    ap (λ l. has_id l id) (sym whole) ∙ list_any-append (same_id id) (take at ids) (drop at ids)
    ∙ or_from (has_id (take at ids) id) (has_id (drop at ids) id) (none_among_below (take at ids) id p.before)
    (none_behind (drop at ids) id (later_ascends (take at ids) (drop at ids) (subst Ascends (sym whole) a)) p.after f)

-- ---- an id that stands at a place

pub stands_there : (ids : List (List ℕ)) (id : List ℕ) (at : ℕ) → StandsAt ids id at → has_id ids id ≡ true
stands_there ids id at s =
    let before = take at ids in
    let after = drop (suc at) ids in
    let found : has_id (before ++ id ∷ after) id ≡ true = grind (arith, list_any-append, same_id_itself) in
    ap (λ l. has_id l id) s.is ∙ found

pub found_or_not : (o : Option ℕ) (b : Bool) (ids : List (List ℕ)) (id : List ℕ) → b ≡ is_some o
    → IfSome o (StandsAt ids id) → IfNone o (has_id ids id ≡ false) → b ≡ has_id ids id
found_or_not None b ids id e s n = e ∙ sym n
found_or_not (Some at) b ids id e s n = e ∙ sym (stands_there ids id at s)

alone : (id : List ℕ) → without_id id (id ∷ []) ≡ []
alone id = grind (arith, same_id_itself)

pub without_stands : (ids : List (List ℕ)) (id : List ℕ) (at : ℕ) → StandsAt ids id at → AreDistinct ids
    → without_id id ids ≡ take at ids ++ drop (suc at) ids
without_stands ids id at s d =
    let before = take at ids in
    let after = drop (suc at) ids in
    let here : has_id (id ∷ []) id ≡ true = grind (arith, same_id_itself) in
    ap (without_id id) s.is
    ∙ without_middle id before (id ∷ []) after (subst AreDistinct s.is d) here
    ∙ ap (λ l. before ++ (l ++ after)) (alone id)

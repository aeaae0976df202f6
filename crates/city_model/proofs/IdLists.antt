-- Lists of ids, with one taken out or one put last: the ids in them.
use Rattle.city_model.proofs.Prelude.{arith, ◌≡◌, ℕ, List, [], ◌∷◌, ◌++◌, Bool, true, false, ◌||◌, refl, ap, sym, ◌∙◌}
use Rattle.city_model.proofs.Prelude.{◌<◌, length, get_or, Ordering, Less, Equal, false≢true, or_parts, and_parts}
use Rattle.city_model.proofs.Prelude.{and_from, filter-append, list_any-append, same_id, has_id, without_id}
use Rattle.city_model.proofs.Prelude.{AreDistinct, nat_cmp, is_eq, is_lt, slice_cmp, nat_list_cmp_total, are_distinct}
use Rattle.city_model.proofs.Prelude.{are_increasing, are_increasing_from}
use Rattle.std.proofs.lemmas.Map.Views.{any-filter_same}
use Rattle.std.proofs.Common.{◌&&◌}
use Rattle.std.specs.Prelude.{not}
use Rattle.std.proofs.lemmas.Bool.{or_left, or_from, not_from_false}
use Rattle.std.proofs.lemmas.List.Folds.{list_any_at}
use Rattle.city_members.proofs.Ids.{bool_cases, same_id_true, same_id_back}
use Rattle.std.specs.List.{HoldsAt}

-- ---- tests

pub not_both : {A : Type 0} (b : Bool) → b ≡ true → b ≡ false → A
not_both b h k = absurd (false≢true (sym k ∙ h))

pub same_truth : (a b : Bool) → (a ≡ true → b ≡ true) → (b ≡ true → a ≡ true) → a ≡ b
same_truth a b f g = grind arith

-- ---- without an id

pub without_absent : (id : List ℕ) (ids : List (List ℕ)) → has_id ids id ≡ false → without_id id ids ≡ ids
without_absent id [] h = refl
without_absent id (x ∷ xs) h = grind (arith, without_absent id xs)

pub has_without : (id : List ℕ) (ids : List (List ℕ)) (q : List ℕ)
    → has_id (without_id id ids) q ≡ (not (same_id id q) && has_id ids q)
has_without id ids q = any-filter_same (same_id q) (λ k. not (same_id id k)) (not (same_id id q))
    (λ k t. ap (λ x. not (same_id id x)) (sym (same_id_true q k t))) ids

pub in_without : (id : List ℕ) (ids : List (List ℕ)) (q : List ℕ) → has_id (without_id id ids) q ≡ true
    → (same_id id q ≡ false) × (has_id ids q ≡ true)
in_without id ids q h = grind (arith, has_without id ids q)

-- an id of one part stands in no other
apart : (xs ys : List (List ℕ)) (id : List ℕ) → AreDistinct (xs ++ ys) → has_id xs id ≡ true → has_id ys id ≡ false
apart [] ys id d h = absurd (false≢true h)
apart (x ∷ xs) ys id d h = bool_cases (same_id id x)
    (λ e. ap (has_id ys) (same_id_true id x e)
    ∙ (or_parts (has_id xs x) (has_id ys x) (sym (list_any-append (same_id x) xs ys) ∙ d.0)).1)
    (λ e. apart xs ys id d.1 (sym (ap (λ b. b || has_id xs id) e) ∙ h))

later_distinct : (xs ys : List (List ℕ)) → AreDistinct (xs ++ ys) → AreDistinct ys
later_distinct [] ys d = d
later_distinct (x ∷ xs) ys d = later_distinct xs ys d.1

-- an id is taken out of its part, and the others stay
pub without_middle : (id : List ℕ) (before part after : List (List ℕ)) → AreDistinct (before ++ (part ++ after))
    → has_id part id ≡ true → without_id id (before ++ (part ++ after)) ≡ before ++ (without_id id part ++ after)
without_middle id before part after d h =
    search (arith, list_any-append, or_left, bool_cases, not_both, apart, later_distinct, filter-append, without_absent)

-- ---- with an id more

pub has_more : (ids : List (List ℕ)) (id q : List ℕ) → has_id (ids ++ id ∷ []) q ≡ (has_id ids q || same_id q id)
has_more ids id q = grind (arith, list_any-append (same_id q) ids (id ∷ []))

pub in_more : (ids : List (List ℕ)) (id q : List ℕ) → has_id (ids ++ id ∷ []) q ≡ true → same_id q id ≡ false
    → has_id ids q ≡ true
in_more ids id q h other = grind (arith, list_any-append)

pub more_has : (ids : List (List ℕ)) (id q : List ℕ) → has_id ids q ≡ true → has_id (ids ++ id ∷ []) q ≡ true
more_has ids id q h = grind (arith, list_any-append)

pub more_has_last : (ids : List (List ℕ)) (id q : List ℕ) → same_id q id ≡ true → has_id (ids ++ id ∷ []) q ≡ true
more_has_last ids id q h = grind (arith, list_any-append)

-- ---- no id twice

pub distinct_without : (id : List ℕ) (ids : List (List ℕ)) → AreDistinct ids → AreDistinct (without_id id ids)
distinct_without id [] d = tt
distinct_without id (x ∷ xs) d = grind (arith, has_without id xs x, distinct_without id xs)

pub distinct_more : (ids : List (List ℕ)) (id : List ℕ) → AreDistinct ids → has_id ids id ≡ false
    → AreDistinct (ids ++ id ∷ [])
distinct_more [] id d h = (refl, tt)
distinct_more (x ∷ xs) id d h = grind (arith, list_any-append, same_id_back, distinct_more xs id)

-- ---- lists of ids in byte order: none recurs, and an id found by a binary search is there

pub is_less : (o : Ordering) → is_lt o ≡ true → o ≡ Less
is_less o h = grind arith

-- an id below the first one isn't among them
not_above : (id last : List ℕ) (ids : List (List ℕ)) → slice_cmp nat_cmp id last ≡ Less
    → are_increasing_from last ids ≡ true → has_id (last ∷ ids) id ≡ false
not_above id last [] less h = or_from (same_id id last) false (ap is_eq less) refl
not_above id last (x ∷ xs) less h =
    let parts = and_parts (is_lt (slice_cmp nat_cmp last x)) (are_increasing_from x xs) h in
    or_from (same_id id last) (has_id (x ∷ xs) id) (ap is_eq less)
    (not_above id x xs (nat_list_cmp_total.trans id last x less (is_less (slice_cmp nat_cmp last x) parts.0)) parts.1)

distinct_from : (id : List ℕ) (ids : List (List ℕ)) → are_increasing_from id ids ≡ true → are_distinct (id ∷ ids) ≡ true
distinct_from id [] h = refl
distinct_from id (x ∷ xs) h = grind (arith, and_parts, and_from, not_from_false, not_above, is_less, distinct_from x xs)

pub increasing_distinct : (ids : List (List ℕ)) → are_increasing ids ≡ true → are_distinct ids ≡ true
increasing_distinct ids h = search (arith, distinct_from)

-- ---- ids found

pub found_there : (ids : List (List ℕ)) (id : List ℕ) (i : ℕ) → i < length ids
    → HoldsAt (λ y. slice_cmp nat_cmp y id ≡ Equal) ids i → has_id ids id ≡ true
found_there ids id i within found = grind (arith, list_any_at, same_id_back, same_id_back id (get_or ids i []))

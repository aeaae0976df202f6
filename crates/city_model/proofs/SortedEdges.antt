-- How often each item stands in a list, by a test for equal items, and the consequences for sorted lists.
use Rattle.city_model.proofs.Prelude.{◌≡◌, ℕ, suc, ◌+◌, ◌-◌, ◌<◌, ◌≤◌, List, [], ◌∷◌, Bool, true, false, length, get_or}
use Rattle.city_model.proofs.Prelude.{take, Ordering, refl, sym, ap, ◌∙◌, arith, ◌++◌, drop, append_assoc, drop-cons}
use Rattle.city_model.proofs.Prelude.{◌==◌, Decides, IsTotalOrder, eq_by_cmp_equiv, AllAdjacentBelow, list_any}
use Rattle.city_model.proofs.Prelude.{list_all, AllByRecursion, IsSorted, IsPermutation, eq_by_cmp, is_lt}
use Rattle.city_model.proofs.Prelude.{list_any-append, times, occurs_once}
use Rattle.std.proofs.Common.{true≢false}
use Rattle.std.specs.Prelude.{◌||◌}
use Rattle.std.specs.Cmp.{IsEquivalence}
use Rattle.std.specs.List.{IsDistinct, filter}
use Rattle.std.proofs.lemmas.List.Folds.{list_any_more, list_all_at}
use Rattle.std.proofs.lemmas.List.Recursion.{is_count_by}
use Rattle.std.proofs.lemmas.List.Sorted.{ranks_by, sorted_far, sum_by-IsPermutation}
use Rattle.std.proofs.lemmas.Map.Keys.{IsDistinct-from_apart}
use Rattle.city_members.proofs.Ids.{bool_cases}
use Rattle.std.proofs.lemmas.Bool.Decides.{nat_tests}
use Rattle.std.proofs.lemmas.List.{take-append-drop}

module _ {T : Type 0} {E : T → T → Bool} (decides : (x y : T) → Decides (E x y) (x ≡ y)) where
  pub counted_first : (x : T) (xs : List T) → 1 ≤ times E x (x ∷ xs)
  counted_first x xs = grind (arith, decides x x)

  -- a test true of all is true of each counted item
  pub all_counted : (f : T → Bool) (xs : List T) → list_all f xs ≡ true → (q : T) → 1 ≤ times E q xs → f q ≡ true
  all_counted f [] h q many = absurd (omega (arith, many))
  all_counted f (x ∷ xs) h q many = grind (arith, decides q x, all_counted f xs)

  pub counted_all : (f : T → Bool) (xs : List T) → ((q : T) → 1 ≤ times E q xs → f q ≡ true) → list_all f xs ≡ true
  counted_all f [] h = refl
  counted_all f (x ∷ xs) h = grind (arith, counted_first x xs, counted_all f xs)

  pub times-filter_kept : (p : T → Bool) (q : T) → p q ≡ true → (xs : List T) → times E q (filter p xs) ≡ times E q xs
  times-filter_kept p q h [] = refl
  times-filter_kept p q h (x ∷ xs) = grind (arith, times-filter_kept p q h xs)

  pub times-filter_left : (p : T → Bool) (q : T) → p q ≡ false → (xs : List T) → times E q (filter p xs) ≡ 0
  times-filter_left p q h [] = refl
  times-filter_left p q h (x ∷ xs) = grind (arith, times-filter_left p q h xs)

-- ---- items without repeats, and how often each stands in a list

not_one : (n : ℕ) → 2 ≤ n → (n == 1) ≡ false
not_one n h = grind (arith, nat_tests, h)

module _ {T : Type 0} (E : T → T → Bool) (q : T) where
  any_counts : (xs : List T) → list_any (E q) xs ≡ true → 1 ≤ times E q xs
  any_counts [] h = absurd (true≢false (sym h))
  any_counts (x ∷ xs) h = grind (arith, any_counts xs)

  count_none : (xs : List T) → list_any (E q) xs ≡ false → times E q xs ≡ 0
  count_none [] h = refl
  count_none (x ∷ xs) h = grind (arith, count_none xs)

  times-append : (xs ys : List T) → times E q (xs ++ ys) ≡ times E q xs + times E q ys
  times-append [] ys = omega arith
  times-append (x ∷ xs) ys = grind (arith, times-append xs ys)

  any_middle : (before : List T) (x : T) (after : List T) → E q x ≡ true → list_any (E q) (before ++ x ∷ after) ≡ true
  any_middle before x after h = grind (arith, list_any-append)

module _ {T : Type 0} {E : T → T → Bool} (laws : IsEquivalence E) where
  apart_counts : (q x : T) (xs : List T) → E q x ≡ true → AllByRecursion (λ y. E x y ≡ false) xs → times E q xs ≡ 0
  apart_counts q x [] e h = refl
  apart_counts q x (y ∷ ys) e h = grind (arith, apart_counts q x ys e h.1)

  count_distinct : (q : T) (xs : List T) → IsDistinct E xs → list_any (E q) xs ≡ true → times E q xs ≡ 1
  unfolding IsDistinct
  count_distinct q [] d h = absurd (true≢false (sym h))
  count_distinct q (x ∷ xs) d h = grind (arith, apart_counts q x xs, d.0, count_distinct q xs d.1)

  -- without repeats a search counts
  once_is_any : (q : T) (es : List T) → IsDistinct E es → occurs_once E es q ≡ list_any (E q) es
  once_is_any q es d = grind (arith, count_distinct q es d, count_none E q es)

  all_found : (before xs : List T) → IsDistinct E (before ++ xs) → list_all (occurs_once E (before ++ xs)) xs ≡ true
  all_found before [] d = refl
  all_found before (x ∷ xs) d =
      grind (arith, once_is_any, any_middle, append_assoc before (x ∷ []) xs, all_found (before ++ x ∷ []) xs)

  -- without repeats each item occurs once
  pub all_self : (es : List T) → IsDistinct E es → list_all (occurs_once E es) es ≡ true
  all_self es d = all_found [] es d

  -- an item equal to an earlier one is repeated
  pub repeated_at : (es : List T) (i : ℕ) (x : T) → i < length es → x ≡ get_or es i x
      → list_any (E x) (take i es) ≡ true → list_all (occurs_once E es) es ≡ false
  repeated_at es i x lt is h =
      let split : times E x es ≡ times E x (take i es) + times E x (drop i es) =
      ap (times E x) (sym (take-append-drop i es)) ∙ times-append E x (take i es) (drop i es) in
      let here : list_any (E x) (drop i es) ≡ true = rw (drop-cons es i x lt, ← is, laws.refl x) refl in
      list_all_at (occurs_once E es) es i x lt
      (rw (← is) (not_one (times E x es)
      (omega (arith, split, any_counts E x (take i es) h, any_counts E x (drop i es) here))))

-- ---- in order equal items are neighbours, and how often each stands there tells the list

module _ {T : Type 0} {xs ys : List T} (moved : IsPermutation xs ys) where
  pub times_permutation : (E : T → T → Bool) (q : T) → times E q ys ≡ times E q xs
  times_permutation E q = grind (arith, is_count_by, sum_by-IsPermutation, is_count_by (times E q) (E q) refl)

-- ---- in order

module _ {T : Type 0} {R : T → T → Ordering} (o : IsTotalOrder R) (xs : List T) (up : IsSorted R xs) where
  -- if no item is the same as the next, none is the same as another
  pub distinct_from_neighbours : AllAdjacentBelow (λ x y. eq_by_cmp R x y ≡ false) xs (length xs)
      → IsDistinct (eq_by_cmp R) xs
  distinct_from_neighbours apart = IsDistinct-from_apart (eq_by_cmp R) xs (λ i j d less within.
      let a = get_or xs i d in
      let b = get_or xs (i + 1) d in
      let c = get_or xs j d in
      let next : i + 1 < length xs = omega (arith, less, within) in
      let far = sorted_far (λ x y. is_lt (R x y)) (ranks_by o (λ x. x)) xs up (i + 1) j d (omega (arith, less)) within
      in grind arith)

  -- the item at i is the same as the one before it
  pub repeated_neighbour : (i : ℕ) (x y : T) → 1 ≤ i → i < length xs → x ≡ get_or xs (i - 1) x → y ≡ get_or xs i y
      → eq_by_cmp R x y ≡ true → list_all (occurs_once (eq_by_cmp R) xs) xs ≡ false
  repeated_neighbour i x y low there first second same =
      let laws = eq_by_cmp_equiv o in
      let more : list_any (eq_by_cmp R y) (take (i - 1 + 1) xs)
      ≡ (list_any (eq_by_cmp R y) (take (i - 1) xs) || eq_by_cmp R y (get_or xs (i - 1) x)) =
      list_any_more (eq_by_cmp R y) xs (i - 1) x (omega arith) in
      let here : eq_by_cmp R y (get_or xs (i - 1) x) ≡ true = laws.symm y (get_or xs (i - 1) x)
      ∙ (ap (λ z. eq_by_cmp R z y) (sym first) ∙ same) in
      let back : i - 1 + 1 ≡ i = omega arith in
      repeated_at laws xs i y there second
      (grind arith)

-- ---- in order, by an order with ties for equal items alone

module _ {T : Type 0} {R : T → T → Ordering} (o : IsTotalOrder R) (decides : (x y : T)
    → Decides (eq_by_cmp R x y) (x ≡ y)) where
  not_below : (x : T) (xs : List T) → ((j : ℕ) (d : T) → j < length xs → is_lt (R (get_or xs j d) x) ≡ false) → (q : T)
      → 1 ≤ times (eq_by_cmp R) q xs → is_lt (R q x) ≡ false
  not_below x [] far q many = absurd (omega (arith, many))
  not_below x (y ∷ ys) far q many =
      bool_cases (eq_by_cmp R q y)
      (λ same. grind (arith, (decides q y).0 same, far 0 y))
      (λ other. not_below x ys (λ j d less. far (suc j) d (omega (arith, less))) q (grind (arith, other)))

  -- none of the items is below the first one
  first_least : (x : T) (xs : List T) → IsSorted R (x ∷ xs) → (q : T) → 1 ≤ times (eq_by_cmp R) q (x ∷ xs)
      → is_lt (R q x) ≡ false
  first_least x xs up =
      not_below x (x ∷ xs)
      (λ j d less. sorted_far (λ y z. is_lt (R y z)) (ranks_by o (λ y. y)) (x ∷ xs) up 0 j d (omega arith) less)

  sorted_rest : (x : T) (xs : List T) → IsSorted R (x ∷ xs) → IsSorted R xs
  sorted_rest x xs up k d low less = grind (arith, up (suc k) d)

  -- a sorted list follows from how often each item stands in it
  pub sorted_same : (xs ys : List T) → IsSorted R xs → IsSorted R ys
      → ((q : T) → times (eq_by_cmp R) q xs ≡ times (eq_by_cmp R) q ys) → xs ≡ ys
  sorted_same [] [] up vp counts = refl
  sorted_same [] (y ∷ ys) up vp counts = absurd (omega (arith, counts y, counted_first decides y ys))
  sorted_same (x ∷ xs) [] up vp counts = absurd (omega (arith, counts x, counted_first decides x xs))
  sorted_same (x ∷ xs) (y ∷ ys) up vp counts =
      let above = first_least y ys vp x (grind (arith, counts x, counted_first decides x xs)) in
      let below = first_least x xs up y (grind (arith, counts y, counted_first decides y ys)) in
      let same : x ≡ y = (decides x y).0 (grind (arith, o.antisymm x y, above, below)) in
      let rest = sorted_same xs ys (sorted_rest x xs up) (sorted_rest y ys vp) (λ q. grind (arith, counts q, same)) in
      grind (arith, same, rest)

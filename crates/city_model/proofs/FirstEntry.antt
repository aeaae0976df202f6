-- The first passing entry, of entries in byte order, is the one with the least id.
use Rattle.city_model.proofs.Prelude.{arith, ◌≡◌, ℕ, Bool, true, false, cond, List, [], ◌∷◌, Option, Some, None, Less}
use Rattle.city_model.proofs.Prelude.{refl, ◌∙◌, nat_cmp, AllByRecursion, list_all, slice_cmp, entries, is_at, keys_of}
use Rattle.city_model.proofs.Prelude.{lookup, and_from, nat_list_cmp_total, lookup-none, Object, Objects, Entries}
use Rattle.city_model.proofs.Prelude.{object_at, found_in, IsLeast}
use Rattle.city_members.proofs.Ids.{bool_cases, same_id_itself, same_id_back, same_id_true}
use Rattle.std.specs.List.Sorted.{IsStrictlySortedBy}
use Rattle.std.proofs.lemmas.Map.Entries.{none_below_head}
use Rattle.city_model.proofs.Objects.{at_entries, entries_ascend}

abbrev pub Test : Type 0 → Type 0
Test X = List ℕ → X → Bool

abbrev pub first_that : {X : Type 0} → Test X → List (List ℕ × X) → Option (List ℕ)
first_that test [] = None
first_that test (e ∷ es) = cond (test e.0 e.1) (Some e.0) (first_that test es)

-- the object at this id passes the test
abbrev pub Passes : {X : Type 0} → Test X → (List ℕ → Option X) → List ℕ → Type 0
Passes {X} test m id = (x : X) × (m id ≡ Some x) × (test id x ≡ true)

-- the object at an id of the entries
abbrev at : {X : Type 0} → List (List ℕ × X) → List ℕ → Option X
at es id = lookup (is_at (slice_cmp nat_cmp id)) es

module _ {X : Type 0} where
  pub here_there : (e : List ℕ × X) (es : List (List ℕ × X)) (id : List ℕ) → e.0 ≡ id → at (e ∷ es) id ≡ Some e.1
  here_there e es id same = grind (arith, same_id_itself id)

  pub further_there : (e : List ℕ × X) (es : List (List ℕ × X)) (id : List ℕ) → slice_cmp nat_cmp e.0 id ≡ Less
      → at (e ∷ es) id ≡ at es id
  further_there e es id less = grind (arith, nat_list_cmp_total.antisymm id e.0)

  -- ---- none

  pub none_that : (test : Test X) (es : List (List ℕ × X)) (q : List ℕ) (o : X) → first_that test es ≡ None
      → at es q ≡ Some o → test q o ≡ false
  none_that test [] q o none there = absurd (cc)
  none_that test (e ∷ es) q o none there = grind (arith, same_id_true, none_that test es q o)

  -- ---- the least

  -- an id found is above each id below them all
  found_above : (test : Test X) (es : List (List ℕ × X)) (first id : List ℕ)
      → AllByRecursion (λ k. slice_cmp nat_cmp first k ≡ Less) (keys_of es) → first_that test es ≡ Some id
      → slice_cmp nat_cmp first id ≡ Less
  found_above test [] first id above is = absurd (cc)
  found_above test (e ∷ es) first id above is = grind (arith, found_above test es first id above.1)

  least_here : (test : Test X) (e : List ℕ × X) (es : List (List ℕ × X)) (id : List ℕ)
      → IsStrictlySortedBy (slice_cmp nat_cmp) (keys_of (e ∷ es)) → test e.0 e.1 ≡ true → e.0 ≡ id
      → IsLeast (Passes test (at (e ∷ es))) id
  least_here test e es id sorted is same = (
    (e.1, here_there e es id same, grind arith),
    λ q less other.
        let none = lookup-none _ (e ∷ es) (none_below_head nat_list_cmp_total q e es sorted (grind arith)) in
        grind (arith, none, other.1),
  )

  least_further : (test : Test X) (e : List ℕ × X) (es : List (List ℕ × X)) (id : List ℕ)
      → slice_cmp nat_cmp e.0 id ≡ Less → test e.0 e.1 ≡ false → IsLeast (Passes test (at es)) id
      → IsLeast (Passes test (at (e ∷ es))) id
  least_further test e es id less is rest = grind (arith, same_id_true, same_id_back)

  pub least_that : (test : Test X) (es : List (List ℕ × X)) (id : List ℕ)
      → IsStrictlySortedBy (slice_cmp nat_cmp) (keys_of es) → first_that test es ≡ Some id
      → IsLeast (Passes test (at es)) id
  unfolding IsStrictlySortedBy
  least_that test [] id sorted there = absurd (cc)
  least_that test (e ∷ es) id sorted there = bool_cases (test e.0 e.1)
      (λ is. least_here test e es id sorted is (grind (arith, is, there)))
      (λ is. let further : first_that test es ≡ Some id = grind (arith, is, there) in
      least_further test e es id (found_above test es e.0 id sorted.0 further) is
      (least_that test es id sorted.1 further))

-- ---- all of them

pub all_at : (test : Object → Bool) (es : Entries) (q : List ℕ) (o : Object)
    → list_all (λ (e : List ℕ × Object). test e.1) es ≡ true → found_in es q ≡ Some o → test o ≡ true
all_at test [] q o all there = absurd (cc)
all_at test (e ∷ es) q o all there = grind (arith, all_at test es q o)

pub there_above : (es : Entries) (first q : List ℕ) (o : Object)
    → AllByRecursion (λ k. slice_cmp nat_cmp first k ≡ Less) (keys_of es) → found_in es q ≡ Some o
    → slice_cmp nat_cmp first q ≡ Less
there_above [] first q o above there = absurd (cc)
there_above (e ∷ es) first q o above there = grind (arith, same_id_true, there_above es first q o above.1)

pub at_all : (test : Object → Bool) (es : Entries) → IsStrictlySortedBy (slice_cmp nat_cmp) (keys_of es)
    → ((q : List ℕ) (o : Object) → found_in es q ≡ Some o → test o ≡ true)
    → list_all (λ (e : List ℕ × Object). test e.1) es ≡ true
unfolding IsStrictlySortedBy
at_all test [] sorted f = refl
at_all test (e ∷ es) sorted f = and_from _ _ (f e.0 e.1 (here_there e es e.0 refl))
    (at_all test es sorted.1
    (λ q o there. f q o (further_there e es q (there_above es e.0 q o sorted.0 there) ∙ there)))

-- ---- of the objects of a city

pub least_in : (test : Test Object) (objects : Objects) (id : List ℕ) → first_that test (entries objects) ≡ Some id
    → IsLeast (Passes test (object_at objects)) id
least_in test objects id there =
    rw (at_entries objects) (least_that test (entries objects) id (entries_ascend objects) there)

pub none_in : (test : Test Object) (objects : Objects) (q : List ℕ) (o : Object)
    → first_that test (entries objects) ≡ None → object_at objects q ≡ Some o → test q o ≡ false
none_in test objects q o none there = none_that test (entries objects) q o none (rw (at_entries objects) at there)

pub all_in : (test : Object → Bool) (objects : Objects) (q : List ℕ) (o : Object)
    → list_all (λ (e : List ℕ × Object). test e.1) (entries objects) ≡ true → object_at objects q ≡ Some o
    → test o ≡ true
all_in test objects q o all there = all_at test (entries objects) q o all (rw (at_entries objects) at there)

pub in_all : (test : Object → Bool) (objects : Objects)
    → ((q : List ℕ) (o : Object) → object_at objects q ≡ Some o → test o ≡ true)
    → list_all (λ (e : List ℕ × Object). test e.1) (entries objects) ≡ true
in_all test objects f = at_all test (entries objects) (entries_ascend objects) (rw (at_entries objects) at f)

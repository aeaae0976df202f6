-- The tests on relations mean the same as the definitions.
use Rattle.city_model.proofs.Prelude.{arith, ◌≡◌, ℕ, Bool, true, false, List, ◌∷◌, Option, Some, None, ap, [], ◌||◌}
use Rattle.city_model.proofs.Prelude.{refl, length, is_some, ◌==◌, list_all, entries, false≢true, and_parts, Object}
use Rattle.city_model.proofs.Prelude.{Objects, Entries, CityMap, object_at, same_id, has_id, children_of, IsLawful}
use Rattle.city_model.proofs.Prelude.{is_orphan, AreDistinct, same_family, HasNoOrphan, IsLeastOrphan, is_misrelated}
use Rattle.city_model.proofs.Prelude.{are_distinct, parent_fits, body_fault}
use Rattle.std.proofs.Common.{◌⊎◌}
use Rattle.std.specs.Prelude.{is_none}
use Rattle.city_model.specs.internal.Faultless.{IsFaultless}
use Rattle.city_model.specs.Misrelated.{IsMisrelatedAt, IsLeastMisrelated}
use Rattle.city_model.specs.Relations.{IsInOrder, IsRelated}
use Rattle.city_model.specs.internal.RelationTests.{is_in_order}
use Rattle.city_model.proofs.FirstEntry.{first_that, least_in, none_in, all_in, in_all}
use Rattle.city_members.proofs.Ids.{same_id_true, same_id_itself}

-- ---- lists

distinct_true : (ids : List (List ℕ)) → are_distinct ids ≡ true → AreDistinct ids
distinct_true [] h = tt
distinct_true (id ∷ ids) h = grind (arith, distinct_true ids)

true_distinct : (ids : List (List ℕ)) → AreDistinct ids → are_distinct ids ≡ true
true_distinct [] d = refl
true_distinct (id ∷ ids) d = grind (arith, true_distinct ids)

all_there : (test : List ℕ → Bool) (ids : List (List ℕ)) (p : List ℕ) → list_all test ids ≡ true → has_id ids p ≡ true
    → test p ≡ true
all_there test [] p h k = absurd (false≢true k)
all_there test (x ∷ xs) p h k = grind (arith, same_id_true p x, all_there test xs p)

there_all : (test : List ℕ → Bool) (ids : List (List ℕ)) → ((p : List ℕ) → has_id ids p ≡ true → test p ≡ true)
    → list_all test ids ≡ true
there_all test [] f = refl
there_all test (x ∷ xs) f = grind (arith, f x, same_id_itself x, there_all test xs)

-- ---- parents

fits_parts : (id : List ℕ) (o : Object) (p : List ℕ) (w : Option Object) → parent_fits id o p w ≡ true
    → (same_id p id ≡ false) × (has_id (children_of w) id ≡ true)
fits_parts id o p w h = grind arith

fits_family : (id : List ℕ) (o : Object) (p : List ℕ) (q : Object) → parent_fits id o p (Some q) ≡ true
    → same_family q.body.kind o.body.kind ≡ true
fits_family id o p q h = search (arith, and_parts)

parts_fit : (id : List ℕ) (o : Object) (p : List ℕ) (w : Option Object) → same_id p id ≡ false
    → has_id (children_of w) id ≡ true
    → ((q : Object) → w ≡ Some q → same_family q.body.kind o.body.kind ≡ true) → parent_fits id o p w ≡ true
parts_fit id o p w apart has f = grind arith

-- ---- levels

no_parents : (second : Bool) (ids : List (List ℕ)) → (second || (length ids == 0)) ≡ true → second ≡ false → ids ≡ []
no_parents second [] h first = refl
no_parents second (x ∷ xs) h first = grind arith

right_level : (second : Bool) (ids : List (List ℕ)) → (second ≡ false → ids ≡ []) → (second || (length ids == 0)) ≡ true
right_level second ids f = grind arith

-- ---- an object

module _ (m : CityMap) (id : List ℕ) (o : Object) where
  pub in_order_true : is_in_order m id o ≡ true → IsInOrder m id o
  in_order_true h = search (arith, and_parts, distinct_true, fits_parts, all_there, no_parents, fits_family)

  pub true_in_order : IsInOrder m id o → is_in_order m id o ≡ true
  true_in_order i = search (arith, true_distinct, right_level, there_all, parts_fit)

  pub misrelated_true : is_misrelated m id o ≡ true → (IsInOrder m id o → ⊥) ⊎ (is_orphan o ≡ true)
  misrelated_true h = grind (arith, true_in_order)

  pub misrelated_false : is_misrelated m id o ≡ false → IsInOrder m id o × (is_orphan o ≡ false)
  misrelated_false h = grind (arith, in_order_true)

-- ---- lawful maps, by the relations and the bodies of their entries

pub least_misrelated : (objects : Objects) (id : List ℕ)
    → first_that (is_misrelated (object_at objects)) (entries objects) ≡ Some id
    → IsLeastMisrelated (object_at objects) id
least_misrelated objects id found =
    let least = least_in (is_misrelated (object_at objects)) objects id found in (
      search (arith, misrelated_true),
      λ q below h. grind (arith, least.1 q below, misrelated_false (object_at objects) q h.0),
    )

pub all_related : (objects : Objects) → first_that (is_misrelated (object_at objects)) (entries objects) ≡ None
    → IsRelated (object_at objects)
all_related objects none id o there = misrelated_false (object_at objects) id o (search (arith, none_in))

-- ---- bodies

abbrev pub has_no_fault : Object → Bool
has_no_fault o = is_none (body_fault o.body)

abbrev pub all_faultless : Entries → Bool
all_faultless es = list_all (λ (e : List ℕ × Object). has_no_fault e.1) es

pub faultless_by : (objects : Objects) → all_faultless (entries objects) ≡ true → IsFaultless (object_at objects)
faultless_by objects all id o there = grind (arith, all_in has_no_fault objects id o all there)

pub faultless_all : (objects : Objects) → IsFaultless (object_at objects) → all_faultless (entries objects) ≡ true
faultless_all objects f = in_all has_no_fault objects (λ id o there. ap is_none (f id o there))

-- an entry with a fault in its body, among the entries left
pub faulty_entry : (all left : Entries) (e : List ℕ × Object) (rest : Entries) → all_faultless all ≡ all_faultless left
    → left ≡ e ∷ rest → is_some (body_fault e.1.body) ≡ true → all_faultless all ≡ true → false ≡ true
faulty_entry all left e rest answer left_is some whole = grind arith

-- ---- both

pub lawful_by : (m : CityMap) → IsRelated m → IsFaultless m → IsLawful m
lawful_by m r f = (λ id o there. ((r id o there).0, f id o there), λ id o there. (r id o there).1)

pub faultless_of_lawful : (m : CityMap) → IsLawful m → IsFaultless m
faultless_of_lawful m l id o there = (l.0 id o there).1

pub misrelated_unlawful : (m : CityMap) (id : List ℕ) → IsMisrelatedAt m id → IsLawful m → ⊥
misrelated_unlawful m id w l = grind (arith, l.0 id w.0 w.1, l.1 id w.0 w.1)

-- ---- the first orphan of a city's objects, in byte order of their ids, is the least one

abbrev pub first_orphan : Entries → Option (List ℕ)
first_orphan es = first_that (λ _ o. is_orphan o) es

pub is_least_orphan : (objects : Objects) (id : List ℕ) → first_orphan (entries objects) ≡ Some id
    → IsLeastOrphan (object_at objects) id
is_least_orphan objects id there = least_in (λ _ o. is_orphan o) objects id there

pub has_no_orphan : (objects : Objects) → first_orphan (entries objects) ≡ None → HasNoOrphan (object_at objects)
has_no_orphan objects none = λ q o there. none_in (λ _ o. is_orphan o) objects q o none there

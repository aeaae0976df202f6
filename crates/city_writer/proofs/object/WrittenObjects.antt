-- Objects written one after the other, each with its points added to a pool.
use Rattle.city_writer.proofs.Prelude.{◌≡◌, ap, ℕ, suc, zero, ◌<◌, arith, List, ◌∷◌, ◌++◌, Less, nat_cmp, ◌∙◌}
use Rattle.city_writer.proofs.Prelude.{append_assoc, [], slice_cmp, AllByRecursion, keys_of, Token, key, Entries}
use Rattle.city_writer.proofs.Prelude.{AllAbove}
use Rattle.city_writer.proofs.Prelude.{AreOrdered, Object, Point, object_data, object_points, with_points, tokens_of}
use Rattle.city_writer.proofs.Prelude.{tokens_of_members, refl, sym, subst, append-nil}
use Rattle.city_writer.proofs.Prelude.{nat_list_cmp_total, no_members, put, with_objects}
use Rattle.city_writer.proofs.Prelude.{Ordering}
use Rattle.std.specs.List.Sorted.{IsStrictlySortedBy}
use Rattle.std.proofs.Common.{take, ◌-◌}
use Rattle.city_writer.specs.internal.object.InTurn.{in_turn, entry_points}
use Rattle.city_writer.proofs.pool.Walks.{with_points-append, walk_first}
use Rattle.std.specs.Cmp.{IsTotalOrder}

all_above : (pool : List Point) (id : List ℕ) (es : Entries)
    → AllByRecursion (λ y. slice_cmp nat_cmp id y ≡ Less) (keys_of es) → AllAbove id (in_turn pool es)
all_above pool id [] h = tt
all_above pool id (e ∷ es) h = (h.0, all_above pool id es h.1)

pub ordered_in_turn : (pool : List Point) (es : Entries) → IsStrictlySortedBy (slice_cmp nat_cmp) (keys_of es)
    → AreOrdered (in_turn pool es)
unfolding IsStrictlySortedBy
ordered_in_turn pool [] h = tt
ordered_in_turn pool (e ∷ es) h = (all_above pool e.0 es h.0, ordered_in_turn pool es h.1)

pub object_written : (all left more : Entries) (id : List ℕ) (o : Object) (pool new : List Point)
    (start out named next : List Token) → left ≡ (id, o) ∷ more → new ≡ with_points pool (object_points o)
    → ((later : List Point)
    → start ++ tokens_of_members (in_turn (with_points pool later) all) ≡ out ++ tokens_of_members
    (in_turn (with_points pool later) left)) → named ≡ out ++ key id ∷ []
    → ((later : List Point) → next ≡ named ++ tokens_of (object_data (with_points new later) o))
    → (later : List Point)
    → start ++ tokens_of_members (in_turn (with_points new later) all) ≡ next ++ tokens_of_members
    (in_turn (with_points new later) more)
object_written all left more id o pool new start out named next first grown invariant named_is next_is later =
    let same = with_points-append pool (object_points o) later in
    let before = invariant (object_points o ++ later) in
    rw (next_is later, named_is, grown) (rw (same, first) at before ∙ simp append_assoc)

pub take_first : {X : Type 0} (n : ℕ) (xs : List X) (x : X) (ys : List X) → 0 < n → xs ≡ x ∷ ys
    → take n xs ≡ x ∷ take (n - 1) ys
take_first zero xs x ys some is = absurd (let none : ⊥ = omega arith in none)
take_first (suc n) xs x ys some is =
    let one : n ≡ suc n - 1 = omega arith in
    rw is (ap (λ k. x ∷ take k ys) one)

-- the points of the first object are added
pub first_added : (n : ℕ) (left next : Entries) (e : List ℕ × Object) (pool new : List Point) → 0 < n → left ≡ e ∷ next
    → new ≡ with_points pool (object_points e.1)
    → with_points pool (entry_points (take n left)) ≡ with_points new (entry_points (take (n - 1) next))
first_added n left next e pool new some is added =
    rw (take_first n left e next some is) (walk_first (λ e. object_points e.1) e (take (n - 1) next) pool new added)

-- ---- by their ids

module _ {K X : Type 0} {R : K → K → Ordering} (total : IsTotalOrder R) where
  -- a key in the middle is above the first
  pub middle : (es : List (K × X)) (first k : K) (more : List K)
      → AllByRecursion (λ y. R first y ≡ Less) (keys_of es ++ k ∷ more) → R first k ≡ Less
  middle [] first k more h = h.0
  middle (e ∷ es) first k more h = middle es first k more h.1

pub keys_of_push : {K X : Type 0} (es : List (K × X)) (k : K) (v : X) (more : List K)
    → keys_of es ++ k ∷ more ≡ keys_of (es ++ (k, v) ∷ []) ++ more
keys_of_push [] k v more = refl
keys_of_push (e ∷ es) k v more = ap (λ ks. e.0 ∷ ks) (keys_of_push es k v more)

module _ (pool : List Point) where
  -- an id above all before it goes last
  put_last : (done : Entries) (id : List ℕ) (o : Object) (more : List (List ℕ))
      → IsStrictlySortedBy (slice_cmp nat_cmp) (keys_of done ++ id ∷ more)
      → put id (object_data pool o) (in_turn pool done) ≡ in_turn pool (done ++ (id, o) ∷ [])
  unfolding IsStrictlySortedBy
  put_last [] id o more h = refl
  put_last (e ∷ es) id o more h =
      let less = middle nat_list_cmp_total es e.0 id more h.0 in
      let turned = nat_list_cmp_total.antisymm id e.0 in
      grind (arith, put_last es id o more h.1)

  written_from : (done es : Entries) → IsStrictlySortedBy (slice_cmp nat_cmp) (keys_of done ++ keys_of es)
      → with_objects pool (in_turn pool done) es ≡ in_turn pool (done ++ es)
  written_from done [] h = ap (in_turn pool) (sym (append-nil done))
  written_from done (e ∷ es) h =
      let next = subst (IsStrictlySortedBy (slice_cmp nat_cmp)) (keys_of_push done e.0 e.1 (keys_of es)) h in
      ap (λ ms. with_objects pool ms es) (put_last done e.0 e.1 (keys_of es) h)
      ∙ written_from (done ++ e ∷ []) es next
      ∙ ap (in_turn pool) (append_assoc done (e ∷ []) es)

  -- objects with ascending ids stand in their order
  pub written_in_turn : (es : Entries) → IsStrictlySortedBy (slice_cmp nat_cmp) (keys_of es)
      → with_objects pool no_members es ≡ in_turn pool es
  written_in_turn es h = written_from [] es h

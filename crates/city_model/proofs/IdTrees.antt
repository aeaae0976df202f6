-- Entries and their ids: the place of an id among them, and an entry put in or taken out.
use Rattle.city_model.proofs.Prelude.{◌≡◌, ℕ, ◌+◌, ◌-◌, ◌<◌, ◌≤◌, List, [], ◌∷◌, ◌++◌, Bool, true, false, refl, sym}
use Rattle.city_model.proofs.Prelude.{ap, ◌∙◌}
use Rattle.city_model.proofs.Prelude.{subst, suc, length, take, drop, get_or, arith, and_from, or_parts}
use Rattle.city_model.proofs.Prelude.{list_all, same_id, has_id, slice_get, Option, Some, None, option_map}
use Rattle.city_model.proofs.IdOrders.{below_after, later_ascends, first_ascends, place_right, place_left, absent_from}
use Rattle.std.proofs.Common.{IfSome, zero}
use Rattle.std.specs.List.{AllWithin}
use Rattle.std.specs.List.Sorted.{IsPartitionedBy, IsPartitionPoint}
use Rattle.std.proofs.lemmas.List.{map-append, take-map, drop-map, length-map, length-append, take_all}
use Rattle.std.proofs.lemmas.Bool.{or_from}
use Rattle.std.proofs.lemmas.Option.{same_Some, slice_get_within, slice_get-map}
use Rattle.city_members.proofs.Ids.{same_id_true}
use Rattle.city_model.specs.Chunks.{ids_of}
use Rattle.city_model.specs.declared.id_tree.Entry.{Entry}
use Rattle.city_model.specs.internal.IdTrees.{is_below, has_below, Ascends, IsPlace, StandsAt}

-- ---- entries joined, put in and taken out

ids_joined : (xs ys : List Entry) → ids_of (xs ++ ys) ≡ ids_of xs ++ ids_of ys
ids_joined xs ys = map-append (λ (e : Entry). e.id) xs ys

entries_long : (es : List Entry) → length (ids_of es) ≡ length es
entries_long es = simp length-map

ids_taken : (at : ℕ) (es : List Entry) → ids_of (take at es) ≡ take at (ids_of es)
ids_taken at es = sym (take-map (λ (e : Entry). e.id) at es)

ids_dropped : (at : ℕ) (es : List Entry) → ids_of (drop at es) ≡ drop at (ids_of es)
ids_dropped at es = sym (drop-map (λ (e : Entry). e.id) at es)

pub ids_with : (es more : List Entry) (e : Entry) (at : ℕ) → more ≡ take at es ++ e ∷ drop at es
    → ids_of more ≡ take at (ids_of es) ++ e.id ∷ drop at (ids_of es)
ids_with es more e at h =
    ap ids_of h ∙ ids_joined (take at es) (e ∷ drop at es)
    ∙ ap (λ l. l ++ e.id ∷ ids_of (drop at es)) (ids_taken at es)
    ∙ ap (λ l. take at (ids_of es) ++ e.id ∷ l) (ids_dropped at es)

pub ids_without : (es less : List Entry) (at : ℕ) → less ≡ take at es ++ drop (at + 1) es
    → ids_of less ≡ take at (ids_of es) ++ drop (suc at) (ids_of es)
ids_without es less at h =
    let e : at + 1 ≡ suc at = omega arith in
    ap ids_of h ∙ ids_joined (take at es) (drop (at + 1) es)
    ∙ ap (λ l. l ++ ids_of (drop (at + 1) es)) (ids_taken at es)
    ∙ ap (λ l. take at (ids_of es) ++ l) (ids_dropped (at + 1) es)
    ∙ ap (λ k. take at (ids_of es) ++ drop k (ids_of es)) e

-- ---- the place of an id in two sides

pub place_in_right : (left right all : List Entry) (id : List ℕ) (n at : ℕ) (below : Bool) → left ++ right ≡ all
    → 0 < length right → IfSome (slice_get right 0) (λ first. below ≡ is_below first.id id) → below ≡ true
    → Ascends (ids_of all) → IsPlace (ids_of right) id n → length left + n ≡ at → IsPlace (ids_of all) id at
place_in_right left [] all id n at below whole some h is a p len = absurd (omega arith)
place_in_right left (e ∷ es) all id n at below whole some h is a p len =
    let joined : ids_of all ≡ ids_of left ++ e.id ∷ ids_of es = ap ids_of (sym whole) ∙ ids_joined left (e ∷ es) in
    let l : length (ids_of left) + n ≡ at = ap (λ k. k + n) (entries_long left) ∙ len in
    let place = place_right (ids_of left) e.id (ids_of es) id n (sym h ∙ is) (subst Ascends joined a) p in
    subst (λ ids. IsPlace ids id at) (sym joined)
    (subst (λ k. IsPlace (ids_of left ++ e.id ∷ ids_of es) id k) l place)

pub place_in_left : (left right all : List Entry) (id : List ℕ) (n : ℕ) (below : Bool) → left ++ right ≡ all
    → 0 < length right → IfSome (slice_get right 0) (λ first. below ≡ is_below first.id id) → below ≡ false
    → Ascends (ids_of all) → IsPlace (ids_of left) id n → IsPlace (ids_of all) id n
place_in_left left [] all id n below whole some h is a p = absurd (omega arith)
place_in_left left (e ∷ es) all id n below whole some h is a p =
    let joined : ids_of all ≡ ids_of left ++ e.id ∷ ids_of es = ap ids_of (sym whole) ∙ ids_joined left (e ∷ es) in
    subst (λ ids. IsPlace ids id n) (sym joined)
    (place_left (ids_of left) e.id (ids_of es) id n (sym h ∙ is) (subst Ascends joined a) p)

-- the place, counted from the end of both sides
pub from_end : (left right all : List Entry) (id : List ℕ) (n k m : ℕ) → left ++ right ≡ all
    → IsPlace (ids_of right) id n → k ≡ length right → m ≡ length all → length left + n ≡ m - (k - n)
from_end left right all id n k m whole p e f =
    omega (arith, p.within, entries_long right, ap length whole, length-append left right)

pub left_ascends : (left right all : List Entry) → left ++ right ≡ all → Ascends (ids_of all) → Ascends (ids_of left)
left_ascends left right all whole a =
    first_ascends (ids_of left) (ids_of right) (subst Ascends (ap ids_of (sym whole) ∙ ids_joined left right) a)

pub right_ascends : (left right all : List Entry) → left ++ right ≡ all → Ascends (ids_of all) → Ascends (ids_of right)
right_ascends left right all whole a =
    later_ascends (ids_of left) (ids_of right) (subst Ascends (ap ids_of (sym whole) ∙ ids_joined left right) a)

-- ---- the place of an id in a leaf

none_below_at : (es : List Entry) (x : List ℕ) (j : ℕ) (d : Entry) → has_below (ids_of es) x ≡ false → j < length es
    → is_below (get_or es j d).id x ≡ false
none_below_at [] x j d h l = absurd (omega arith)
none_below_at (e ∷ es) x zero d h l = (or_parts (is_below e.id x) (has_below (ids_of es) x) h).0
none_below_at (e ∷ es) x (suc j) d h l =
    none_below_at es x j d (or_parts (is_below e.id x) (has_below (ids_of es) x) h).1 (omega arith)

pub parted : (es : List Entry) (id : List ℕ) → Ascends (ids_of es) → IsPartitionedBy (λ e. is_below e.id id) es
parted [] id a i j d le l t = absurd (omega arith)
parted (e ∷ es) id a zero zero d le l t = t
parted (e ∷ es) id a zero (suc j) d le l t =
    below_after e.id (get_or es j d).id id (none_below_at es e.id j d a.0 (omega arith)) t
parted (e ∷ es) id a (suc i) zero d le l t = absurd (omega arith)
parted (e ∷ es) id a (suc i) (suc j) d le l t = parted es id a.1 i j d (omega arith) (omega arith) t

all_before : (es : List Entry) (id : List ℕ) (i : ℕ) → i ≤ length es
    → AllWithin (λ e. is_below e.id id ≡ true) es 0 i → list_all (λ q. is_below q id) (take i (ids_of es)) ≡ true
all_before es id zero l h = refl
all_before [] id (suc i) l h = refl
all_before (e ∷ es) id (suc i) l h =
    and_from (is_below e.id id) (list_all (λ q. is_below q id) (take i (ids_of es))) (h 0 e (omega arith) (omega arith))
    (all_before es id i (omega arith) (λ k d m n. h (suc k) d (omega arith) (omega arith)))

none_from : (es : List Entry) (id : List ℕ) (i : ℕ) → AllWithin (λ e. is_below e.id id ≡ false) es i (length es)
    → has_below (drop i (ids_of es)) id ≡ false
none_from [] id zero h = refl
none_from [] id (suc i) h = refl
none_from (e ∷ es) id zero h =
    or_from (is_below e.id id) (has_below (ids_of es) id) (h 0 e (omega arith) (omega arith))
    (none_from es id zero (λ k d m n. h (suc k) d (omega arith) (omega arith)))
none_from (e ∷ es) id (suc i) h = none_from es id i (λ k d m n. h (suc k) d (omega arith) (omega arith))

pub place_in_leaf : (es all : List Entry) (id : List ℕ) (i : ℕ) → es ≡ all → i ≤ length es
    → IsPartitionPoint (λ e. is_below e.id id ≡ true) (λ e. is_below e.id id ≡ false) es i → IsPlace (ids_of all) id i
place_in_leaf es all id i same l p = subst (λ w. IsPlace (ids_of w) id i) same (record {
  within = omega (arith, entries_long es, l);
  before = all_before es id i l p.0;
  after = none_from es id i p.1;
})

-- ---- an id that stands at a place, or isn't there

cut_at : (es : List Entry) (at : ℕ) (e : Entry) → slice_get es at ≡ Some e
    → ids_of es ≡ take at (ids_of es) ++ e.id ∷ drop (suc at) (ids_of es)
cut_at [] at e h = absurd (cc)
cut_at (x ∷ es) zero e h = ap (λ (w : Entry). w.id ∷ ids_of es) (same_Some x e h)
cut_at (x ∷ es) (suc at) e h = ap (λ l. x.id ∷ l) (cut_at es at e h)

pub entry_stands : (es : List Entry) (id : List ℕ) (at : ℕ) (e : Entry) → slice_get es at ≡ Some e
    → same_id id e.id ≡ true → StandsAt (ids_of es) id at
entry_stands es id at e h same = record {
  within = omega (arith, slice_get_within es at e h, entries_long es);
  is =
      cut_at es at e h
      ∙ ap (λ w. take at (ids_of es) ++ w ∷ drop (suc at) (ids_of es)) (sym (same_id_true id e.id same));
}

first_of_rest : {X : Type 0} (i : ℕ) (xs : List X) → slice_get (drop i xs) 0 ≡ slice_get xs i
first_of_rest zero xs = refl
first_of_rest (suc i) [] = refl
first_of_rest (suc i) (x ∷ xs) = first_of_rest i xs

id_apart : (o : Option Entry) (id y : List ℕ) → option_map (λ (e : Entry). e.id) o ≡ Some y
    → IfSome o (λ e. same_id id e.id ≡ false) → same_id id y ≡ false
id_apart None id y h f = absurd (cc)
id_apart (Some e) id y h f = ap (same_id id) (sym (same_Some e.id y h)) ∙ f

pub entry_absent : (es : List Entry) (id : List ℕ) (at : ℕ) → Ascends (ids_of es) → IsPlace (ids_of es) id at
    → IfSome (slice_get es at) (λ e. same_id id e.id ≡ false) → has_id (ids_of es) id ≡ false
entry_absent es id at a p f =
    absent_from (ids_of es) id at a p
    (λ y h. id_apart (slice_get es at) id y
    (sym (slice_get-map (λ (e : Entry). e.id) es at) ∙ sym (first_of_rest at (ids_of es)) ∙ h) f)

-- ---- a walk that finds no id

none_up_to : (es : List Entry) (id : List ℕ) (at : ℕ) → has_id (take at (ids_of es)) id ≡ false
    → IfSome (slice_get es at) (λ e. same_id id e.id ≡ false) → has_id (take (suc at) (ids_of es)) id ≡ false
none_up_to [] id at h f = refl
none_up_to (x ∷ es) id zero h f = or_from (same_id id x.id) false f refl
none_up_to (x ∷ es) id (suc at) h f =
    let parts = or_parts (same_id id x.id) (has_id (take at (ids_of es)) id) h in
    or_from (same_id id x.id) (has_id (take (suc at) (ids_of es)) id) parts.0 (none_up_to es id at parts.1 f)

pub none_more : (es : List Entry) (id : List ℕ) (at : ℕ) → has_id (take at (ids_of es)) id ≡ false
    → IfSome (slice_get es at) (λ e. same_id id e.id ≡ false) → has_id (take (at + 1) (ids_of es)) id ≡ false
none_more es id at h f =
    let e : suc at ≡ at + 1 = omega arith in
    subst (λ k. has_id (take k (ids_of es)) id ≡ false) e (none_up_to es id at h f)

pub none_at_all : (es : List Entry) (id : List ℕ) (at : ℕ) → has_id (take at (ids_of es)) id ≡ false → length es ≤ at
    → has_id (ids_of es) id ≡ false
none_at_all es id at h l =
    let long : length (ids_of es) ≤ at = omega (arith, entries_long es, l) in
    subst (λ ids. has_id ids id ≡ false) (take_all at (ids_of es) long) h

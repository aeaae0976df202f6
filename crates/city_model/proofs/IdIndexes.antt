-- The ids of a list in another order: how often each stands in them.
use Rattle.city_model.proofs.Prelude.{◌≡◌, ℕ, ◌+◌, ◌≤◌, List, [], ◌∷◌, ◌++◌, Bool, true, false, refl, sym, ap, ◌∙◌}
use Rattle.city_model.proofs.Prelude.{subst, suc, cond, length, take, drop, arith, and_from, and_parts}
use Rattle.city_model.proofs.Prelude.{filter-append, same_id, has_id, are_distinct}
use Rattle.city_model.proofs.Prelude.{are_increasing, are_increasing_from, or_parts, not}
use Rattle.city_model.proofs.Prelude.{AreDistinct, without_id}
use Rattle.city_model.proofs.IdLists.{same_truth, increasing_distinct, without_absent}
use Rattle.city_model.proofs.IdOrders.{ascends_with, ascends_without, below_other, none_below_after, not_back}
use Rattle.city_model.proofs.IdOrders.{without_stands}
use Rattle.city_model.proofs.IdTrees.{ids_with, ids_without}
use Rattle.std.proofs.lemmas.Bool.{or_from, not_from_false}
use Rattle.std.proofs.lemmas.List.{take-append-drop, length-append}
use Rattle.std.specs.List.{filter}
use Rattle.city_members.proofs.Ids.{bool_cases, same_id_true, same_id_itself}
use Rattle.city_model.specs.Chunks.{ids_of}
use Rattle.city_model.specs.declared.id_tree.Entry.{Entry}
use Rattle.city_model.specs.internal.IdTrees.{is_below, has_below, Ascends, IsPlace, StandsAt, IsIndex, times_in}

-- ---- how often an id stands in a list

times_here : (id x : List ℕ) (xs : List (List ℕ)) → same_id id x ≡ true → times_in (x ∷ xs) id ≡ suc (times_in xs id)
times_here id x xs e = ap (λ b. length (cond b (x ∷ filter (same_id id) xs) (filter (same_id id) xs))) e

times_later : (id x : List ℕ) (xs : List (List ℕ)) → same_id id x ≡ false → times_in (x ∷ xs) id ≡ times_in xs id
times_later id x xs e = ap (λ b. length (cond b (x ∷ filter (same_id id) xs) (filter (same_id id) xs))) e

times_append : (xs ys : List (List ℕ)) (id : List ℕ) → times_in (xs ++ ys) id ≡ times_in xs id + times_in ys id
times_append xs ys id =
    ap length (filter-append (same_id id) xs ys) ∙ length-append (filter (same_id id) xs) (filter (same_id id) ys)

times_middle : (xs : List (List ℕ)) (y : List ℕ) (ys : List (List ℕ)) (id : List ℕ)
    → times_in (xs ++ y ∷ ys) id ≡ times_in (y ∷ []) id + times_in (xs ++ ys) id
times_middle xs y ys id =
    let a = times_append xs (y ∷ ys) id in
    let b = times_append (y ∷ []) ys id in
    let c = times_append xs ys id in
    omega (arith, a, b, c)

never_there : (ids : List (List ℕ)) (id : List ℕ) → times_in ids id ≡ 0 → has_id ids id ≡ false
never_there [] id h = refl
never_there (x ∷ xs) id h = bool_cases (same_id id x)
    (λ e. let t = times_here id x xs e in absurd (omega (arith, t, h)))
    (λ e. or_from (same_id id x) (has_id xs id) e (never_there xs id (sym (times_later id x xs e) ∙ h)))

there_never : (ids : List (List ℕ)) (id : List ℕ) → has_id ids id ≡ false → times_in ids id ≡ 0
there_never [] id h = refl
there_never (x ∷ xs) id h =
    let parts = or_parts (same_id id x) (has_id xs id) h in
    times_later id x xs parts.0 ∙ there_never xs id parts.1

-- ---- an index of a list

pub index_has : (index ids : List (List ℕ)) (id : List ℕ) → IsIndex index ids → has_id index id ≡ has_id ids id
index_has index ids id i =
    let to : has_id index id ≡ false → has_id ids id ≡ false =
    λ h. never_there ids id (sym (i.as_often id) ∙ there_never index id h) in
    let from : has_id ids id ≡ false → has_id index id ≡ false =
    λ h. never_there index id (i.as_often id ∙ there_never ids id h) in
    same_falsehood (has_id index id) (has_id ids id) to from
  where
    same_falsehood : (a b : Bool) → (a ≡ false → b ≡ false) → (b ≡ false → a ≡ false) → a ≡ b
    same_falsehood a b f g = grind arith

-- an id more in both
pub index_with : (index : List (List ℕ)) (id : List ℕ) (at : ℕ) → Ascends index → IsPlace index id at
    → IsIndex (take at index ++ id ∷ drop at index) (index ++ id ∷ [])
index_with index id at a p =
    let before = take at index in
    let after = drop at index in
    record {
      ascends = ascends_with index id at a p;
      as_often = λ q.
          let m = times_middle before id after q in
          let n = times_append index (id ∷ []) q in
          let w = ap (λ l. times_in l q) (take-append-drop at index) in
          omega (arith, m, n, w);
    }

-- an id less in both
pub index_without : (index ids : List (List ℕ)) (id : List ℕ) (at place : ℕ) → IsIndex index ids
    → StandsAt index id at → StandsAt ids id place
    → IsIndex (take at index ++ drop (suc at) index) (take place ids ++ drop (suc place) ids)
index_without index ids id at place i s t = record {
  ascends = ascends_without (take at index) id (drop (suc at) index) (subst Ascends s.is i.ascends);
  as_often = λ q.
      let a = times_middle (take at index) id (drop (suc at) index) q in
      let b = times_middle (take place ids) id (drop (suc place) ids) q in
      let c : times_in index q ≡ times_in (take at index ++ id ∷ drop (suc at) index) q = ap (λ l. times_in l q) s.is in
      let d : times_in ids q ≡ times_in (take place ids ++ id ∷ drop (suc place) ids) q = ap (λ l. times_in l q) t.is in
      let e = i.as_often q in
      omega (arith, a, b, c, d, e);
}

-- ---- ids in byte order are their own index

increasing_ascends_from : (x : List ℕ) (xs : List (List ℕ)) → are_increasing_from x xs ≡ true → Ascends (x ∷ xs)
increasing_ascends_from x [] h = (refl, tt)
increasing_ascends_from x (y ∷ ys) h =
    let parts = and_parts (is_below x y) (are_increasing_from y ys) h in
    let later = increasing_ascends_from y ys parts.1 in
    let above = not_back x y parts.0 in
    (or_from (is_below y x) (has_below ys x) above (none_below_after ys y x above later.0), later)

increasing_ascends : (ids : List (List ℕ)) → are_increasing ids ≡ true → Ascends ids
increasing_ascends [] h = tt
increasing_ascends (x ∷ xs) h = increasing_ascends_from x xs h

pub own_index : (ids : List (List ℕ)) → are_increasing ids ≡ true → IsIndex ids ids
own_index ids h = record { ascends = increasing_ascends ids h; as_often = λ id. refl }

-- ---- no id twice

not_true_false : (b : Bool) → not b ≡ true → b ≡ false
not_true_false b h = grind arith

distinct_once : (ids : List (List ℕ)) → are_distinct ids ≡ true → (id : List ℕ) → times_in ids id ≤ 1
distinct_once [] h id = omega arith
distinct_once (x ∷ xs) h id =
    let parts = and_parts (not (has_id xs x)) (are_distinct xs) h in
    let rest = distinct_once xs parts.1 id in
    bool_cases (same_id id x)
    (λ e.
    let none = there_never xs x (not_true_false (has_id xs x) parts.0) in
    let other : times_in xs id ≡ times_in xs x = ap (times_in xs) (same_id_true id x e) in
    let t = times_here id x xs e in
    omega (arith, t, none, other))
    (λ e. let t = times_later id x xs e in omega (arith, t, rest))

once_distinct : (ids : List (List ℕ)) → ((id : List ℕ) → times_in ids id ≤ 1) → are_distinct ids ≡ true
once_distinct [] f = refl
once_distinct (x ∷ xs) f =
    let t = times_here x x xs (same_id_itself x) in
    let u = f x in
    let none : times_in xs x ≡ 0 = omega (arith, t, u) in
    and_from (not (has_id xs x)) (are_distinct xs) (not_from_false (has_id xs x) (never_there xs x none))
    (once_distinct xs (λ id. rest id))
  where
    rest : (id : List ℕ) → times_in xs id ≤ 1
    rest id =
        let g = f id in
        bool_cases (same_id id x) (λ e. let t = times_here id x xs e in omega (arith, t, g))
        (λ e. let t = times_later id x xs e in omega (arith, t, g))

distinct_increasing_from : (x : List ℕ) (xs : List (List ℕ)) → Ascends (x ∷ xs) → are_distinct (x ∷ xs) ≡ true
    → are_increasing_from x xs ≡ true
distinct_increasing_from x [] a h = refl
distinct_increasing_from x (y ∷ ys) a h =
    let parts = and_parts (not (has_id (y ∷ ys) x)) (are_distinct (y ∷ ys)) h in
    let none = not_true_false (has_id (y ∷ ys) x) parts.0 in
    let apart = (or_parts (same_id x y) (has_id ys x) none).0 in
    let above = (or_parts (is_below y x) (has_below ys x) a.0).0 in
    and_from (is_below x y) (are_increasing_from y ys) (below_other x y apart above)
    (distinct_increasing_from y ys a.1 parts.1)

distinct_increasing : (ids : List (List ℕ)) → Ascends ids → are_distinct ids ≡ true → are_increasing ids ≡ true
distinct_increasing [] a h = refl
distinct_increasing (x ∷ xs) a h = distinct_increasing_from x xs a h

pub index_distinct : (index ids : List (List ℕ)) → IsIndex index ids → are_increasing index ≡ are_distinct ids
index_distinct index ids i = same_truth (are_increasing index) (are_distinct ids)
    (λ h.
    let once = distinct_once index (increasing_distinct index h) in
    once_distinct ids (λ id. subst (λ n. n ≤ 1) (i.as_often id) (once id)))
    (λ h. distinct_increasing index i.ascends
    (once_distinct index (λ id. subst (λ n. n ≤ 1) (sym (i.as_often id)) (distinct_once ids h id))))

-- ---- the trees of a list and of its index

pub alike : (by_id id_copy by_place place_copy : List Entry) → IsIndex (ids_of by_id) (ids_of by_place)
    → id_copy ≡ by_id → place_copy ≡ by_place → IsIndex (ids_of id_copy) (ids_of place_copy)
alike by_id id_copy by_place place_copy i e f =
    subst (λ es. IsIndex (ids_of id_copy) (ids_of es)) (sym f)
    (subst (λ es. IsIndex (ids_of es) (ids_of by_place)) (sym e) i)

pub entry_with : (by_id more : List Entry) (entry : Entry) (id : List ℕ) (at : ℕ) → Ascends (ids_of by_id)
    → id ≡ entry.id → IsPlace (ids_of by_id) id at → more ≡ take at by_id ++ entry ∷ drop at by_id
    → IsIndex (ids_of more) (ids_of by_id ++ entry.id ∷ [])
entry_with by_id more entry id at a e p h =
    subst (λ ids. IsIndex ids (ids_of by_id ++ entry.id ∷ [])) (sym (ids_with by_id more entry at h))
    (index_with (ids_of by_id) entry.id at a (subst (λ q. IsPlace (ids_of by_id) q at) e p))

pub entry_less : (by_id by_place less_id less_place : List Entry) (id : List ℕ) (at place : ℕ)
    → IsIndex (ids_of by_id) (ids_of by_place) → StandsAt (ids_of by_id) id at → StandsAt (ids_of by_place) id place
    → less_id ≡ take at by_id ++ drop (at + 1) by_id → less_place ≡ take place by_place ++ drop (place + 1) by_place
    → IsIndex (ids_of less_id) (ids_of less_place)
entry_less by_id by_place less_id less_place id at place i s t e f =
    subst (λ ids. IsIndex ids (ids_of less_place)) (sym (ids_without by_id less_id at e))
    (subst (IsIndex (take at (ids_of by_id) ++ drop (suc at) (ids_of by_id)))
    (sym (ids_without by_place less_place place f))
    (index_without (ids_of by_id) (ids_of by_place) id at place i s t))

pub ids_less : (by_place less : List Entry) (id : List ℕ) (place : ℕ) → AreDistinct (ids_of by_place)
    → StandsAt (ids_of by_place) id place → less ≡ take place by_place ++ drop (place + 1) by_place
    → ids_of less ≡ without_id id (ids_of by_place)
ids_less by_place less id place d s h =
    ids_without by_place less place h ∙ sym (without_stands (ids_of by_place) id place s d)

pub ids_kept : (index ids : List (List ℕ)) (id : List ℕ) → IsIndex index ids → has_id index id ≡ false
    → ids ≡ without_id id ids
ids_kept index ids id i h = sym (without_absent id ids (sym (index_has index ids id i) ∙ h))

-- ---- an index in the making

-- by_id has, in order, the ids of by_place but those of the entries left
pub record IsIndexing (by_id left by_place : List Entry) : Type 0 where
  pub ascends : Ascends (ids_of by_id)
  pub as_often : (id : List ℕ) → times_in (ids_of by_id) id + times_in (ids_of left) id ≡ times_in (ids_of by_place) id

pub indexing_none : (by_id left by_place : List Entry) → by_id ≡ [] → left ≡ by_place → IsIndexing by_id left by_place
indexing_none by_id left by_place e f = record {
  ascends = subst (λ es. Ascends (ids_of es)) (sym e) tt;
  as_often = λ id.
      let a : times_in (ids_of by_id) id ≡ 0 = ap (λ es. times_in (ids_of es) id) e in
      let b : times_in (ids_of left) id ≡ times_in (ids_of by_place) id = ap (λ es. times_in (ids_of es) id) f in
      omega (arith, a, b);
}

pub indexing_more : (by_id more left rest by_place : List Entry) (entry copy : Entry) → IsIndexing by_id left by_place
    → left ≡ entry ∷ rest → copy ≡ entry → IsIndex (ids_of more) (ids_of by_id ++ copy.id ∷ [])
    → IsIndexing more rest by_place
indexing_more by_id more left rest by_place entry copy i e f m = record {
  ascends = m.ascends;
  as_often = λ id.
      let a = i.as_often id in
      let b = m.as_often id in
      let c = times_append (ids_of by_id) (copy.id ∷ []) id in
      let d = times_append (entry.id ∷ []) (ids_of rest) id in
      let g : times_in (ids_of left) id ≡ times_in (entry.id ∷ ids_of rest) id = ap (λ es. times_in (ids_of es) id) e in
      let h = ap (λ (w : Entry). times_in (w.id ∷ []) id) f in
      omega (arith, a, b, c, d, g, h);
}

pub indexing_all : (by_id left by_place : List Entry) → IsIndexing by_id left by_place → left ≡ []
    → IsIndex (ids_of by_id) (ids_of by_place)
indexing_all by_id left by_place i e = record {
  ascends = i.ascends;
  as_often = λ id.
      let a = i.as_often id in
      let b : times_in (ids_of left) id ≡ 0 = ap (λ es. times_in (ids_of es) id) e in
      omega (arith, a, b);
}

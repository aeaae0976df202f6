-- The objects made from a list: the list made from them again, their faults, and their resolve.
use Rattle.city_tokens.proofs.Prelude.{◌≡◌, ℕ, List, [], ◌∷◌, length, Some, Less, Equal, Greater, nat_cmp, sym, ap}
use Rattle.city_tokens.proofs.Prelude.{subst, ◌∙◌, arith, None, ◌++◌, refl, slice_cmp, AllByRecursion}
use Rattle.city_tokens.proofs.Prelude.{nat_list_cmp_total, Object, Entries, same_id_back, objects_of, entries_of, Point}
use Rattle.city_tokens.proofs.Prelude.{made, IsResolvedObject, IsObject, Pairs, IsReadAs, IsTaken, IsFromIterResult}
use Rattle.city_tokens.proofs.Prelude.{Token, Data, Members, no_members, member, put, object_of}
use Rattle.std.proofs.Common.{cond, BTreeMap}
use Rattle.std.specs.FinMap.{empty, entries, entries-insert, len-entries, len-empty, put as put_entry}
use Rattle.std.specs.FinMap.Entries.{by_order}
use Rattle.city_model.specs.CityMap.{Objects, CityMap, object_at, found_in, changed}
use Rattle.city_model.proofs.Objects.{at_empty, at_insert, at_entries, same_objects}
use Rattle.city_model.specs.internal.Faultless.{IsFaultless}
use Rattle.city_model.specs.Shells.{body_fault}
use Rattle.city_model.proofs.MapsMade.{put_each}
use Rattle.city_tokens.specs.internal.Faultless.{AreFaultless}
use Rattle.city_tokens.specs.internal.Objects.{IsNamedObject, IsListing, put_all}
use Rattle.city_members.proofs.Puts.{cmp}
use Rattle.city_tokens.proofs.Pairing.{pairs_push, pairs_over}

pub at_listed : (es : Entries) → object_at (objects_of es) ≡ found_in es
at_listed [] = at_empty
at_listed (e ∷ es) =
    at_insert (objects_of es) e.0 e.1
    ∙ ap (λ (m : CityMap). changed m e.0 (Some e.1)) (at_listed es)
    ∙ (λ i q. cond (same_id_back e.0 q i) (Some e.1) (found_in es q))

pub listed_again : (objects : Objects) → objects_of (entries objects) ≡ objects
listed_again objects =
    same_objects (objects_of (entries objects)) objects (at_listed (entries objects) ∙ sym (at_entries objects))

-- a property of each object of a list holds of each object made from it
module _ (P : Object → Type 0) where
  abbrev pub OfEach : Entries → Type 0
  OfEach es = AllByRecursion (λ e. P e.1) es

  of_none : (es : Entries) → length es ≡ 0 → OfEach es
  of_none [] h = tt
  of_none (e ∷ es) h = absurd (omega arith)

  pub of_each_put : (id : List ℕ) (object : Object) (es : Entries) → P object → OfEach es
      → OfEach (put_entry (slice_cmp nat_cmp) id object es)
  of_each_put id object [] one h = (one, tt)
  of_each_put id object (e ∷ es) one h =
      let more = of_each_put id object es one h.1 in
      elim (slice_cmp nat_cmp id e.0) as (λ o. OfEach (by_order o ((id, object) ∷ e ∷ es) ((e.0, object) ∷ es)
      (e ∷ put_entry (slice_cmp nat_cmp) id object es)))
      [ Less ↦ (one, h) | Equal ↦ (one, h.1) | Greater ↦ (h.0, more) ]

  pub of_each_listed : (es : Entries) → OfEach es → OfEach (entries (objects_of es))
  of_each_listed [] h =
      of_none (entries {X = Object} {R = slice_cmp nat_cmp} empty) (sym (len-entries empty)
      ∙ len-empty (slice_cmp nat_cmp) Object)
  of_each_listed (e ∷ es) h =
      subst OfEach (sym (entries-insert nat_list_cmp_total (objects_of es) e.0 e.1))
      (of_each_put e.0 e.1 (entries (objects_of es)) h.0 (of_each_listed es h.1))

-- the resolved ones
pub faultless_each : (points : List Point) (all resolved es : Entries) → Pairs (IsResolvedObject points) all resolved
    → AreFaultless es → AreFaultless (put_each resolved es)
faultless_each points [] [] es pairs h = h
faultless_each points (u ∷ all) (x ∷ resolved) es pairs h =
    faultless_each points all resolved (put_entry (slice_cmp nat_cmp) x.0 x.1 es) pairs.1
    (of_each_put (λ o. body_fault o.body ≡ None) x.0 x.1 es pairs.0.2 h)
faultless_each points _ _ es pairs h = absurd pairs

faultless_found : (es : Entries) → AreFaultless es → IsFaultless (found_in es)
faultless_found [] h id o is = absurd (cc)
faultless_found (e ∷ es) h id o is = let rest = faultless_found es h.1 id o in grind arith

-- a city of such entries
pub faultless_city : (objects : Objects) (es : Entries) → entries objects ≡ es → AreFaultless es
    → IsFaultless (object_at objects)
faultless_city objects es are h = rw (at_entries objects, are) (faultless_found es h)

-- listed
put_all_push : (ms : List (List ℕ × Data)) (m : List ℕ × Data) (start : Members)
    → put_all (ms ++ m ∷ []) start ≡ put m.0 m.1 (put_all ms start)
put_all_push [] m start = refl
put_all_push (k ∷ ms) m start = put_all_push ms m (put k.0 k.1 start)

pub listed : (old new : Entries) (id name : List ℕ) (o : Object) {depth : ℕ} {before after : List Token}
    → new ≡ old ++ (id, o) ∷ [] → id ≡ name → IsReadAs IsObject o depth before after
    → IsTaken (λ es found kept. IsListing es found) old new name depth before after
listed old new id name o grown named read =
    let m : List ℕ × Data = (name, read.0) in
    let push = pairs_push IsNamedObject old in (
      read.0,
      read.1,
      λ _ _ h. rw (grown, h.1)
          (h.0 ++ m ∷ [], sym (put_all_push h.0 m no_members), push h.0 (id, o) m h.2 (named, read.2)),
    )

-- one object more
entries_put : (points : List Point) (id : List ℕ) (d : Data) (x : Object) (ms : Members) (es : Entries)
    → object_of points d ≡ Some x → entries_of points ms ≡ Some es
    → entries_of points (put id d ms) ≡ Some (put_entry cmp id x es)
entries_put points id d x no_members es one here = grind arith
entries_put points id d x (member l e ms) es one here = grind (arith, entries_put points id d x ms)

-- the member of an object's id was read as the object
abbrev IsRead : List Point → List ℕ × Object → List ℕ × Data → Type 0
IsRead points x m = (x.0 ≡ m.0) × (object_of points m.1 ≡ Some x.1)

entries_put_all : (points : List Point) (xs : Entries) (ms : List (List ℕ × Data)) (start : Members) (es : Entries)
    → Pairs (IsRead points) xs ms → entries_of points start ≡ Some es
    → entries_of points (put_all ms start) ≡ Some (put_each xs es)
entries_put_all points [] [] start es pairs here = here
entries_put_all points (x ∷ xs) (m ∷ ms) start es pairs here =
    grind (arith, entries_put_all points xs ms, entries_put points m.0 m.1 x.1 start es pairs.0.1 here)
entries_put_all points _ _ start es pairs here = absurd pairs

-- the listed members stand for the entries of the resolved objects
pub listed_entries : (points : List Point) (all resolved : Entries) (m : BTreeMap (List ℕ) Object) (found : Members)
    → IsFromIterResult cmp resolved m → Pairs (IsResolvedObject points) all resolved → IsListing all found
    → entries_of points found ≡ Some m.entries
listed_entries points all resolved m found h pairs is =
    let read = pairs_over (IsResolvedObject points) IsNamedObject (IsRead points)
    (λ u x m p q. (p.0 ∙ q.0, p.1 m.1 q.1)) all resolved is.0 pairs is.2 in
    rw (is.1, made resolved m h) (entries_put_all points resolved is.0 no_members [] read refl)

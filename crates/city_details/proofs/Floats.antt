-- A value without a float, put among members without one.
use Rattle.city_details.proofs.Prelude.{◌≡◌, ◌∷◌, ◌++◌, List, ℕ, [], Data, Members, no_members, member, put}
use Rattle.city_details.proofs.Prelude.{has_float, members_have_float, items_have_float, items_of, false, refl}
use Rattle.city_details.proofs.Prelude.{nat_cmp}
use Rattle.city_details.proofs.Prelude.{Ordering, Less, Equal, Greater, match_ordering, slice_cmp}
use Rattle.city_details.proofs.Prelude.{map, view, object, number, sym, subst, ◌∙◌, ℤ, pos, negsuc}
use Rattle.std.proofs.lemmas.Bool.{or_parts}
use Rattle.std.proofs.lemmas.List.{map-append}
use Rattle.serde_json.specs.Find.{of_integer}
use Rattle.serde_json.specs.declared.value.Value.{Value}

put_at : (o : Ordering) (k l : List ℕ) (d e : Data) (ms rest : Members)
    → has_float d ≡ false → has_float e ≡ false → members_have_float ms ≡ false → members_have_float rest ≡ false
    → members_have_float (match_ordering o (member k d (member l e ms)) (member l d ms) (member l e rest)) ≡ false
put_at Less k l d e ms rest h g m r = rw (h, g, m) refl
put_at Equal k l d e ms rest h g m r = rw (h, m) refl
put_at Greater k l d e ms rest h g m r = rw (g, r) refl

pub put_stays : (k : List ℕ) (d : Data) (ms : Members) → has_float d ≡ false → members_have_float ms ≡ false
    → members_have_float (put k d ms) ≡ false
put_stays k d no_members h g = rw h refl
put_stays k d (member l e ms) h g =
    let parts = or_parts (has_float e) (members_have_float ms) g in
    put_at (slice_cmp nat_cmp k l) k l d e ms (put k d ms) h parts.0 parts.1 (put_stays k d ms h parts.1)

-- a value more at the end
pub one_more_stays : (ds : List Data) (d : Data) → items_have_float (items_of ds) ≡ false → has_float d ≡ false
    → items_have_float (items_of (ds ++ d ∷ [])) ≡ false
one_more_stays [] d h g = rw g refl
one_more_stays (e ∷ ds) d h g =
    let parts = or_parts (has_float e) (items_have_float (items_of ds)) h in
    rw (parts.0, one_more_stays ds d parts.1 g) refl

-- objects as values, and one more
pub object_pushed : (vs : List Value) (os : List Members) (v : Value) (ms : Members) → map view vs ≡ map object os
    → items_have_float (items_of (map view vs)) ≡ false → view v ≡ object ms → members_have_float ms ≡ false
    → (map view (vs ++ v ∷ []) ≡ map object (os ++ ms ∷ []))
    × (items_have_float (items_of (map view (vs ++ v ∷ []))) ≡ false)
object_pushed vs os v ms same h seen g =
    let shown : map view (vs ++ v ∷ []) ≡ map object os ++ object ms ∷ [] = rw (map-append, same, seen) refl in
    let free : has_float (object ms) ≡ false = g in
    let HasNone : List Data → Type 0 = λ ds. items_have_float (items_of ds) ≡ false in
    let all = one_more_stays (map object os) (object ms) (subst HasNone same h) free in
    (shown ∙ sym (map-append object os (ms ∷ [])), subst HasNone (sym shown) all)

-- a whole number is no float
pub integer_is_no_float : (z : ℤ) → has_float (number (of_integer z)) ≡ false
integer_is_no_float (pos n) = refl
integer_is_no_float (negsuc n) = refl

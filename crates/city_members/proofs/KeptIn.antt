-- Members put and taken out, over one of the name or without one.
use Rattle.city_members.proofs.Prelude.{◌≡◌, ℕ, List, true, Option, None, Some, Ordering, Less, Equal, arith}
use Rattle.city_members.proofs.Prelude.{refl, sym, ap, ◌∙◌, slice_cmp, nat_cmp, no_members, member}
use Rattle.city_members.proofs.Prelude.{nat_list_cmp_total}
use Rattle.std.proofs.Common.{Greater}
use Rattle.serde_json.specs.Data.{Data, object, Members, put}
use Rattle.serde_json.specs.Find.{get_member}
use Rattle.serde_json.proofs.Views.{get_member-put}
use Rattle.city_members.specs.Attributes.{attributes, attributes_in, put_each, with_attributes, with_set, with_unset}
use Rattle.city_members.specs.Attributes.{members_or_none}
use Rattle.city_members.specs.Kept.{has_no_member, kept_at_object}
use Rattle.city_members.specs.Members.{without, without_each, AreOrdered}
use Rattle.city_members.specs.internal.KeptIn.{found_integral, with_own}
use Rattle.std.proofs.lemmas.Cmp.{tied_itself}
use Rattle.city_members.proofs.Ids.{same_id_itself}
use Rattle.city_members.proofs.AttributeLaws.{kept_with, put-without}
use Rattle.city_members.proofs.MemberLists.{get_member-above, above_below, ordered_put, ordered_without}

-- ---- one of the name is there

put-put_at : (o : Ordering) (k : List ℕ) (d e : Data) (l : List ℕ) (f : Data) (ms : Members)
    → slice_cmp nat_cmp k l ≡ o → put k d (put k e ms) ≡ put k d ms
    → put k d (put k e (member l f ms)) ≡ put k d (member l f ms)
put-put_at Less k d e l f ms is later = rw (is, tied_itself nat_list_cmp_total k) refl
put-put_at Equal k d e l f ms is later = rw (is, is) refl
put-put_at Greater k d e l f ms is later = rw (is, is) (ap (member l f) later)

pub put-put : (k : List ℕ) (d e : Data) (ms : Members) → put k d (put k e ms) ≡ put k d ms
put-put k d e no_members = grind (arith, same_id_itself k)
put-put k d e (member l f ms) = put-put_at _ k d e l f ms refl (put-put k d e ms)

without_first : (k : List ℕ) (d : Data) (ms : Members) → without k (member k d ms) ≡ without k ms
without_first k d ms = grind (arith, same_id_itself k)

without-put_at : (o : Ordering) (k : List ℕ) (d : Data) (l : List ℕ) (f : Data) (ms : Members)
    → slice_cmp nat_cmp k l ≡ o → without k (put k d ms) ≡ without k ms
    → without k (put k d (member l f ms)) ≡ without k (member l f ms)
without-put_at Less k d l f ms is later =
    let before : put k d (member l f ms) ≡ member k d (member l f ms) = rw is refl in
    ap (without k) before ∙ without_first k d (member l f ms)
without-put_at Equal k d l f ms is later =
    let before : put k d (member l f ms) ≡ member l d ms = rw is refl in
    let same : without k (member l d ms) ≡ without k (member l f ms) = rw is refl in
    ap (without k) before ∙ same
without-put_at Greater k d l f ms is later =
    let before : put k d (member l f ms) ≡ member l f (put k d ms) = rw is refl in
    let same : without k (member l f (put k d ms)) ≡ without k (member l f ms) = rw is (ap (member l f) later) in
    ap (without k) before ∙ same

pub without-put : (k : List ℕ) (d : Data) (ms : Members) → without k (put k d ms) ≡ without k ms
without-put k d no_members = grind (arith, same_id_itself k)
without-put k d (member l f ms) = without-put_at _ k d l f ms refl (without-put k d ms)

put_there_at : (o : Ordering) (k : List ℕ) (d : Data) (l : List ℕ) (f : Data) (ms : Members)
    → slice_cmp nat_cmp k l ≡ o → AreOrdered (member l f ms) → get_member k (member l f ms) ≡ Some d
    → (get_member k ms ≡ Some d → put k d ms ≡ ms) → put k d (member l f ms) ≡ member l f ms
put_there_at Less k d l f ms is h there later =
    let none : get_member k ms ≡ None = get_member-above k ms (above_below k l ms is h.0) in
    let same : get_member k (member l f ms) ≡ get_member k ms = rw is refl in
    absurd (grind (arith, same, none, there))
put_there_at Equal k d l f ms is h there later =
    let same : get_member k (member l f ms) ≡ Some f = rw is refl in
    let value : f ≡ d = grind (arith, same, there) in
    rw (is, value) refl
put_there_at Greater k d l f ms is h there later =
    let same : get_member k (member l f ms) ≡ get_member k ms = rw is refl in
    rw is (ap (member l f) (later (sym same ∙ there)))

pub put_there : (k : List ℕ) (d : Data) (ms : Members) → AreOrdered ms → get_member k ms ≡ Some d → put k d ms ≡ ms
put_there k d no_members h there = absurd (grind (arith, there))
put_there k d (member l f ms) h there = put_there_at _ k d l f ms refl h there (put_there k d ms h.1)

-- a member taken out is put back
pub put_back : (k : List ℕ) (d : Data) (ms : Members) → AreOrdered ms → get_member k ms ≡ Some d
    → put k d (without k ms) ≡ ms
put_back k d ms h there = put-without k d ms h ∙ put_there k d ms h there

-- ---- none of the name is there

pub without_absent : (k : List ℕ) (ms : Members) → get_member k ms ≡ None → without k ms ≡ ms
without_absent k no_members none = refl
without_absent k (member l f ms) none = grind (arith, without_absent k ms)

-- ---- attributes in the place of others

pub attributes_own : (ms found : Members) → attributes_in (with_own ms (Some found)) ≡ Some found
attributes_own ms found = ap members_or_none (get_member-put attributes (object found) ms)

-- a set in the attributes is a set in the members
pub set_own : (ms : Members) (own : Option Members) (named found : Members)
    → with_own ms (Some (put_each named found)) ≡ with_set (with_own ms own) named found
set_own ms None named found = refl
set_own ms (Some old) named found = sym (put-put attributes (object (put_each named found)) (object old) ms)

left_own : (ms old left : Members) → with_attributes ms left ≡ with_attributes (put attributes (object old) ms) left
left_own ms old no_members = sym (without-put attributes (object old) ms)
left_own ms old (member k d left) = sym (put-put attributes (object (member k d left)) (object old) ms)

pub unset_own : (ms : Members) (own : Option Members) (names : List (List ℕ)) (found : Members)
    → with_attributes ms (without_each names found) ≡ with_unset (with_own ms own) names found
unset_own ms None names found = refl
unset_own ms (Some old) names found = left_own ms old (without_each names found)

pub ordered_attributes : (ms left : Members) → AreOrdered ms → AreOrdered (with_attributes ms left)
ordered_attributes ms no_members h = ordered_without attributes ms h
ordered_attributes ms (member k d left) h = ordered_put attributes (object (member k d left)) ms h

pub none_left : (ms left : Members) → has_no_member left ≡ true → with_attributes ms left ≡ without attributes ms
none_left ms no_members h = refl
none_left ms (member k d left) h = absurd (grind (arith, h))

-- attributes in their place among others that an object keeps
pub kept_own : (ms : Members) (own : Option Members) → kept_at_object ms ≡ true → found_integral own ≡ true
    → kept_at_object (with_own ms own) ≡ true
kept_own ms None kept whole = kept
kept_own ms (Some found) kept whole = kept_with ms found kept whole

pub ordered_own : (ms : Members) (own : Option Members) → AreOrdered ms → AreOrdered (with_own ms own)
ordered_own ms None h = h
ordered_own ms (Some found) h = ordered_put attributes (object found) ms h

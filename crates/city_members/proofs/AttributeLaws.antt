-- Members with one put among them, or with some taken out: their order, their numbers, and whether they may still be
-- kept.
use Rattle.city_members.proofs.Prelude.{◌≡◌, ℕ, List, [], ◌∷◌, true, false, Option, None, Some, Ordering, Less}
use Rattle.city_members.proofs.Prelude.{Equal, refl, sym, ap, subst, ◌∙◌, arith, slice_cmp}
use Rattle.city_members.proofs.Prelude.{codes, no_members, member, same_id}
use Rattle.city_members.proofs.Prelude.{members_integral, exact_bytes, false≢true}
use Rattle.city_members.proofs.Prelude.{nat_cmp, if◌then◌else◌}
use Rattle.std.proofs.Common.{Greater}
use Rattle.serde_json.specs.Data.{Data, object, Members, put}
use Rattle.serde_json.specs.Find.{get_member}
use Rattle.serde_json.proofs.Views.{get_member-put_other}
use Rattle.city_members.specs.Integral.{is_integral}
use Rattle.city_members.specs.Kept.{kept_at_object, has_no_member}
use Rattle.city_members.specs.Members.{without, without_each, AllAbove, AreOrdered}
use Rattle.city_members.specs.Attributes.{attributes, put_each, attributes_in, members_or_none, with_set}
use Rattle.city_members.specs.Attributes.{with_attributes, with_unset, are_among}
use Rattle.city_members.proofs.Ids.{same_id_of_equal}
use Rattle.city_members.proofs.MemberLists.{above_below, put-above, without-above}
use Rattle.city_members.proofs.MemberLaws.{members_integral-without, get_member-without}

-- ---- a member put over another one of its name

put_without_at : (o : Ordering) (k l : List ℕ) (d e : Data) (ms : Members) → slice_cmp nat_cmp k l ≡ o
    → AreOrdered (member l e ms) → put k d (without k ms) ≡ put k d ms
    → put k d (without k (member l e ms)) ≡ put k d (member l e ms)
put_without_at Less k l d e ms is h later = rw (is, without-above k ms (above_below k l ms is h.0), is)
put_without_at Equal k l d e ms is h later =
    let same : k ≡ l = exact_bytes k l is in
    let above : AllAbove k ms = subst (λ i. AllAbove i ms) (sym same) h.0 in
    rw (is, without-above k ms above, put-above k d ms above, same)
put_without_at Greater k l d e ms is h later = rw (is, is, later)

pub put-without : (k : List ℕ) (d : Data) (ms : Members) → AreOrdered ms → put k d (without k ms) ≡ put k d ms
put-without k d no_members h = refl
put-without k d (member l e ms) h = put_without_at _ k l d e ms refl h (put-without k d ms h.1)

-- ---- whole numbers

pub members_integral-put : (k : List ℕ) (d : Data) (ms : Members) → is_integral d ≡ true → members_integral ms ≡ true
    → members_integral (put k d ms) ≡ true
members_integral-put k d no_members whole h = grind arith
members_integral-put k d (member l e ms) whole h = grind (arith, members_integral-put k d ms)

pub members_integral-put_each : (named ms : Members) → members_integral named ≡ true → members_integral ms ≡ true
    → members_integral (put_each named ms) ≡ true
members_integral-put_each no_members ms whole h = h
members_integral-put_each (member k d named) ms whole h =
    grind (arith, members_integral-put k d ms, members_integral-put_each named (put k d ms))

pub members_integral-without_each : (names : List (List ℕ)) (ms : Members) → members_integral ms ≡ true
    → members_integral (without_each names ms) ≡ true
members_integral-without_each [] ms h = h
members_integral-without_each (name ∷ names) ms h =
    grind (arith, members_integral-without name ms, members_integral-without_each names (without name ms))

integral_there : (name : List ℕ) (ms : Members) (d : Data) → members_integral ms ≡ true → get_member name ms ≡ Some d
    → is_integral d ≡ true
integral_there name no_members d h is = grind arith
integral_there name (member l e ms) d h is = grind (arith, integral_there name ms d)

object_integral : (x : Option Data) (found : Members) → ((d : Data) → x ≡ Some d → is_integral d ≡ true)
    → members_or_none x ≡ Some found → members_integral found ≡ true
object_integral None found h is = grind arith
object_integral (Some (object ms)) found h is = grind (arith, h (object ms) refl)
object_integral (Some d) found h is = grind arith

pub attributes_integral : (extra found : Members) → members_integral extra ≡ true → attributes_in extra ≡ Some found
    → members_integral found ≡ true
attributes_integral extra found h is =
    object_integral (get_member attributes extra) found (λ d there. integral_there attributes extra d h there) is

-- ---- the kept members of an object

whole_of : (extra : Members) → kept_at_object extra ≡ true → members_integral extra ≡ true
whole_of extra kept = grind arith

-- members different in `attributes` alone may be kept if their numbers are whole
kept_like : (ms ns : Members) → members_integral ns ≡ true
    → ((name : List ℕ) → same_id name attributes ≡ false → get_member name ns ≡ get_member name ms)
    → kept_at_object ms ≡ true → kept_at_object ns ≡ true
kept_like ms ns whole same kept = rw (
  whole ∙ sym (whole_of ms kept),
  same (codes "type") refl,
  same (codes "geometry") refl,
  same (codes "parents") refl,
  same (codes "children") refl,
  same (codes "address") refl,
) kept

put_elsewhere : (name : List ℕ) (d : Data) (ms : Members) → same_id name attributes ≡ false
    → get_member name (put attributes d ms) ≡ get_member name ms
put_elsewhere name d ms apart =
    get_member-put_other name attributes d ms (λ e. false≢true (sym apart ∙ same_id_of_equal name attributes e))

pub kept_with : (extra found : Members) → kept_at_object extra ≡ true → members_integral found ≡ true
    → kept_at_object (put attributes (object found) extra) ≡ true
kept_with extra found kept whole =
    kept_like extra _ (members_integral-put attributes (object found) extra whole (whole_of extra kept))
    (λ name. put_elsewhere name (object found) extra) kept

kept_without : (extra : Members) → kept_at_object extra ≡ true → kept_at_object (without attributes extra) ≡ true
kept_without extra kept =
    kept_like extra _ (members_integral-without attributes extra (whole_of extra kept))
    (λ name. get_member-without name attributes extra) kept

-- putting the filled attributes back among the other members is a set
pub set_is : (extra named found left filled after : Members) → AreOrdered extra → left ≡ without attributes extra
    → filled ≡ put_each named found → after ≡ put attributes (object filled) left → after ≡ with_set extra named found
set_is extra named found left filled after ordered rest set done =
    rw (done, set, rest) (put-without attributes (object (put_each named found)) extra ordered)

pub with_set_kept : (extra named found : Members) → kept_at_object extra ≡ true → members_integral named ≡ true
    → attributes_in extra ≡ Some found → kept_at_object (with_set extra named found) ≡ true
with_set_kept extra named found kept whole is =
    kept_with extra _ kept
    (members_integral-put_each named found whole (attributes_integral extra found (whole_of extra kept) is))

with_left_kept : (extra left : Members) → kept_at_object extra ≡ true → members_integral left ≡ true
    → kept_at_object (with_attributes extra left) ≡ true
with_left_kept extra no_members kept whole = kept_without extra kept
with_left_kept extra (member k d left) kept whole = kept_with extra (member k d left) kept whole

-- putting the attributes left, if any, back among the other members is an unset
left_is : (extra left rest : Members) → AreOrdered extra → rest ≡ without attributes extra
    → (if has_no_member left then rest else put attributes (object left) rest) ≡ with_attributes extra left
left_is extra no_members rest ordered is = is
left_is extra (member k d left) rest ordered is =
    rw is (put-without attributes (object (member k d left)) extra ordered)

pub unset_is : (extra : Members) (names : List (List ℕ)) (found left rest after : Members) → AreOrdered extra
    → rest ≡ without attributes extra → left ≡ without_each names found
    → after ≡ (if has_no_member left then rest else put attributes (object left) rest)
    → after ≡ with_unset extra names found
unset_is extra names found left rest after ordered is taken done =
    done ∙ left_is extra left rest ordered is ∙ ap (with_attributes extra) taken

pub none_among : (named : Members) → are_among named no_members ≡ has_no_member named
none_among no_members = refl
none_among (member k d named) = refl

pub with_unset_kept : (extra : Members) (names : List (List ℕ)) (found : Members) → kept_at_object extra ≡ true
    → attributes_in extra ≡ Some found → kept_at_object (with_unset extra names found) ≡ true
with_unset_kept extra names found kept is =
    with_left_kept extra _ kept
    (members_integral-without_each names found (attributes_integral extra found (whole_of extra kept) is))

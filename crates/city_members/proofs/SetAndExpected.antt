-- An expect of attributes after a set is met, and after an unset it isn't.
use Rattle.city_members.proofs.Prelude.{arith, ◌≡◌, ℕ, List, [], ◌∷◌, true, false, None, Some, refl, ap, ◌∙◌}
use Rattle.city_members.proofs.Prelude.{nat_list_cmp_total, has_id, same_id}
use Rattle.city_members.proofs.Prelude.{member, no_members, members_integral}
use Rattle.serde_json.specs.Data.{Data, object, Members, put}
use Rattle.serde_json.specs.Find.{get_member}
use Rattle.std.proofs.Common.{◌&&◌}
use Rattle.std.proofs.lemmas.Cmp.{tied_itself}
use Rattle.city_members.specs.Attributes.{attributes, attributes_in, put_each, with_set, with_attributes, with_unset}
use Rattle.city_members.specs.Attributes.{members_or_none, members_of, is_value, are_among, has_attributes}
use Rattle.city_members.specs.Members.{without, without_each, AllAbove, AreOrdered}
use Rattle.city_members.proofs.Ids.{same_id_true, same_id_back, below_is_apart}
use Rattle.city_members.proofs.Ids.{bool_cases}
use Rattle.city_members.proofs.KeptIn.{put_there}
use Rattle.city_members.proofs.MemberLaws.{get_member-without, get_member-without_same}
use Rattle.city_members.proofs.SameValues.{value_same}

-- ---- a member put

pub get_member-put_same : (k : List ℕ) (d : Data) (ms : Members) → get_member k (put k d ms) ≡ Some d
get_member-put_same k d no_members = grind (arith, tied_itself nat_list_cmp_total k)
get_member-put_same k d (member l e ms) = grind (arith, tied_itself nat_list_cmp_total k, get_member-put_same k d ms)

pub get_member-put : (k l : List ℕ) (d : Data) (ms : Members) → same_id k l ≡ false
    → get_member k (put l d ms) ≡ get_member k ms
get_member-put k l d no_members apart = grind arith
get_member-put k l d (member j e ms) apart = grind (arith, same_id_true l j, get_member-put k l d ms)

-- a set of nothing changes no object with attributes
pub set_of_nothing : (extra found : Members) → AreOrdered extra → get_member attributes extra ≡ Some (object found)
    → with_set extra no_members found ≡ extra
set_of_nothing extra found o is = put_there attributes (object found) extra o is

-- ---- members put one after another

above_apart : (k : List ℕ) (named ms : Members) → AllAbove k named → get_member k (put_each named ms) ≡ get_member k ms
above_apart k no_members ms h = refl
above_apart k (member l d named) ms h =
    above_apart k named (put l d ms) h.1 ∙ get_member-put k l d ms (same_id_back k l ∙ below_is_apart k l h.0)

put_each_among : (named ms : Members) → AreOrdered named → members_integral named ≡ true
    → are_among named (put_each named ms) ≡ true
put_each_among no_members ms o whole = refl
put_each_among (member k d named) ms o whole =
    grind (
      arith,
      above_apart k named (put k d ms) o.0,
      get_member-put_same k d ms,
      value_same d,
      put_each_among named (put k d ms) o.1,
    )

set_in : (extra named found : Members) → attributes_in (with_set extra named found) ≡ Some (put_each named found)
set_in extra named found = grind (arith, get_member-put_same attributes (object (put_each named found)) extra)

-- an expect after a set is met
pub set_is_expected : (extra named found : Members) → AreOrdered named → members_integral named ≡ true
    → has_attributes (with_set extra named found) named ≡ true
set_is_expected extra named found o whole =
    ap (λ x. are_among named (members_of x)) (set_in extra named found) ∙ put_each_among named found o whole

-- ---- members taken out

absent_without : (k name : List ℕ) (ms : Members) → get_member k ms ≡ None → get_member k (without name ms) ≡ None
absent_without k name ms none = bool_cases (same_id k name)
    (λ e. rw (same_id_true k name e) (get_member-without_same name ms))
    (λ e. get_member-without k name ms e ∙ none)

absent_still : (k : List ℕ) (names : List (List ℕ)) (ms : Members) → get_member k ms ≡ None
    → get_member k (without_each names ms) ≡ None
absent_still k [] ms none = none
absent_still k (name ∷ names) ms none = absent_still k names (without name ms) (absent_without k name ms none)

pub get_member-without_each : (k : List ℕ) (names : List (List ℕ)) (ms : Members) → has_id names k ≡ true
    → get_member k (without_each names ms) ≡ None
get_member-without_each k [] ms h = absurd (grind arith)
get_member-without_each k (name ∷ names) ms h = bool_cases (same_id k name)
    (λ e. absent_still k names (without name ms) (rw (same_id_true k name e) (get_member-without_same name ms)))
    (λ e. get_member-without_each k names (without name ms) (grind (arith, e)))

unset_in : (extra left : Members) → attributes_in (with_attributes extra left) ≡ Some left
unset_in extra no_members = ap members_or_none (get_member-without_same attributes extra)
unset_in extra (member k d ms) = ap members_or_none (get_member-put_same attributes (object (member k d ms)) extra)

-- an expect of an attribute after its unset isn't met
pub unset_is_unexpected : (extra found : Members) (names : List (List ℕ)) (k : List ℕ) (d : Data) (named : Members)
    → has_id names k ≡ true → has_attributes (with_unset extra names found) (member k d named) ≡ false
unset_is_unexpected extra found names k d named h =
    ap (λ x. are_among (member k d named) (members_of x)) (unset_in extra (without_each names found))
    ∙ ap (λ x. is_value d x && are_among named (without_each names found)) (get_member-without_each k names found h)

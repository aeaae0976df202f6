-- The remaining members of a tree of whole numbers may be kept at their place.
use Rattle.city_doc.proofs.Prelude.{◌≡◌, ℕ, List, Bool, true, false, Some, refl, ◌∙◌, arith, ◌∷◌, [], ap, not, cond}
use Rattle.city_doc.proofs.Prelude.{◌&&◌, and_from, Members, Data, member, string, no_members, put, get_member}
use Rattle.city_doc.proofs.Prelude.{members_integral, lacks_each, object_members, top_members, kept_at_top}
use Rattle.city_doc.proofs.Prelude.{kept_at_object, has_location, is_empty_object_or_absent, without_each, without}
use Rattle.city_doc.proofs.Prelude.{kept_if, without_object_members, without_top_members, get_member-without_each}
use Rattle.city_doc.proofs.Prelude.{has_id, put_list, same_id_back, same_id_true}
use Rattle.std.proofs.Common.{codes}
use Rattle.city_tokens.proofs.Laws.{lacks_each-without_each, members_integral-without_each}
use Rattle.city_doc.proofs.tree.PutLists.{without-put_list}

pub kept_all : (test : Members → Bool) (ms : Members) → test ms ≡ true → kept_if test ms ≡ Some ms
kept_all test ms h = rw h refl

pub kept_passes : (test : Members → Bool) (ms kept : Members) → kept_if test ms ≡ Some kept → test ms ≡ true
kept_passes test ms kept h = grind arith

-- members without some names are whole, and lack each of these
pub left_whole : (names : List (List ℕ)) (ms : Members) → members_integral ms ≡ true
    → (members_integral (without_each names ms) && lacks_each names (without_each names ms)) ≡ true
left_whole names ms h =
    and_from _ _ (members_integral-without_each names ms h) (lacks_each-without_each names ms)

pub top_admitted : (ms : Members) → members_integral ms ≡ true
    → is_empty_object_or_absent (get_member (codes "extensions") ms) ≡ true
    → kept_at_top (without_top_members ms) ≡ true
top_admitted ms h extensions =
    and_from _ _ (left_whole top_members ms h)
    (ap is_empty_object_or_absent (get_member-without_each top_members (codes "extensions") ms refl) ∙ extensions)

pub object_admitted : (ms : Members) → members_integral ms ≡ true
    → has_location (get_member (codes "address") ms) ≡ false → kept_at_object (without_object_members ms) ≡ true
object_admitted ms h located =
    and_from _ _ (left_whole object_members ms h)
    (ap (λ o. not (has_location o)) (get_member-without_each object_members (codes "address") ms refl)
    ∙ ap not located)

left_of : (names : List (List ℕ)) (k : List ℕ) (d : Data) (ms : Members)
    → without_each names (member k d ms)
    ≡ cond (has_id names k) (without_each names ms) (member k d (without_each names ms))
left_of [] k d ms = refl
left_of (n ∷ names) k d ms = grind (arith, same_id_back, left_of names k d (without n ms))

pub left_put : (names : List (List ℕ)) (k : List ℕ) (d : Data) (ms : Members) → has_id names k ≡ true
    → without_each names (put k d ms) ≡ without_each names ms
left_put names k d no_members there = left_of names k d no_members ∙ rw there refl
left_put names k d (member l e ms) there =
    let rest = left_put names k d ms there in
    let same = same_id_true k l in
    grind (arith, left_of)

pub left_without : (names : List (List ℕ)) (k : List ℕ) (ms : Members) → has_id names k ≡ true
    → without_each names (without k ms) ≡ without_each names ms
left_without names k no_members there = refl
left_without names k (member l d ms) there =
    let rest = left_without names k ms there in
    let same = same_id_true k l in
    grind (arith, left_of)

pub left_put_list : {A : Type 0} (names : List (List ℕ)) (k : List ℕ) (f : A → Data) (xs : List A) (ms : Members)
    → has_id names k ≡ true → without_each names (put_list k f xs ms) ≡ without_each names ms
left_put_list names k f xs ms there = grind (arith, left_put)

-- members that lack each name stay as they are
pub left_lacking : (names : List (List ℕ)) (ms : Members) → lacks_each names ms ≡ true → without_each names ms ≡ ms
left_lacking [] ms h = refl
left_lacking (n ∷ names) ms h =
    let same = without-put_list n string [] ms in
    let rest = left_lacking names ms in
    grind arith

-- Members that are put in at their names, looked up and taken out.
use Rattle.city_tokens.proofs.Prelude.{◌≡◌, ℕ, List, refl, sym, ap, ◌∙◌, arith, [], ◌∷◌}
use Rattle.city_tokens.proofs.Prelude.{true, false, None, true≢false}
use Rattle.city_tokens.proofs.Prelude.{Data, Members, no_members, member, put}
use Rattle.city_tokens.proofs.Prelude.{without, without_each, get_member, same_id, has_id}
use Rattle.city_tokens.proofs.Prelude.{members_integral, by_id, get_member-without}
use Rattle.city_members.specs.Kept.{lacks_each}
use Rattle.city_members.proofs.Ids.{same_id_itself}
use Rattle.city_members.proofs.MemberLaws.{get_member-without_same, members_integral-without}
use Rattle.serde_json.proofs.Views.{get_member-put_other}

pub without-swap : (a b : List ℕ) (ms : Members) → without a (without b ms) ≡ without b (without a ms)
without-swap a b no_members = refl
without-swap a b (member k d ms) = grind (arith, without-swap a b ms)

pub without-twice : (a : List ℕ) (ms : Members) → without a (without a ms) ≡ without a ms
without-twice a no_members = refl
without-twice a (member k d ms) = grind (arith, without-twice a ms)

-- an absent member stays absent
gone_each : (names : List (List ℕ)) (name : List ℕ) (ms : Members) → get_member name ms ≡ None
    → get_member name (without_each names ms) ≡ None
gone_each [] name ms h = h
gone_each (n ∷ names) name ms h = gone_each names name (without n ms)
    (by_id name n (λ same. rw (same, get_member-without_same) refl) (λ apart. get_member-without name n ms apart ∙ h))

-- members taken out are absent
pub lacks_each-without_each : (names : List (List ℕ)) (ms : Members) → lacks_each names (without_each names ms) ≡ true
lacks_each-without_each [] ms = refl
lacks_each-without_each (n ∷ names) ms =
    let gone = gone_each names n (without n ms) (get_member-without_same n ms) in
    rw (gone, lacks_each-without_each names (without n ms)) refl

-- a member of another name stays
pub get_member-without_each : (names : List (List ℕ)) (name : List ℕ) (ms : Members) → has_id names name ≡ false
    → get_member name (without_each names ms) ≡ get_member name ms
get_member-without_each [] name ms apart = refl
get_member-without_each (n ∷ names) name ms apart =
    grind (arith, get_member-without_each names name (without n ms), get_member-without)

pub members_integral-without_each : (names : List (List ℕ)) (ms : Members) → members_integral ms ≡ true
    → members_integral (without_each names ms) ≡ true
members_integral-without_each [] ms h = h
members_integral-without_each (n ∷ names) ms h =
    members_integral-without_each names (without n ms) (members_integral-without n ms h)

-- the other names keep their values
pub get_member-put_apart : (q k : List ℕ) (d : Data) (ms : Members) → same_id q k ≡ false
    → get_member q (put k d ms) ≡ get_member q ms
get_member-put_apart q k d ms apart =
    get_member-put_other q k d ms (λ (e : q ≡ k). true≢false (sym (same_id_itself q) ∙ ap (same_id q) e ∙ apart))

-- if the name isn't there, nothing is taken out
pub without-absent : (name : List ℕ) (ms : Members) → get_member name ms ≡ None → without name ms ≡ ms
without-absent name no_members none = refl
without-absent name (member k d ms) none = grind (arith, without-absent name ms)

-- a member put in is taken out again, with any before it
pub without-put_own : (n : List ℕ) (d : Data) (ms : Members) → without n (put n d ms) ≡ without n ms
without-put_own n d no_members = grind (arith, same_id_itself)
without-put_own n d (member l e ms) = let own = same_id_itself n in grind (arith, without-put_own n d ms)

pub without-put : (name : List ℕ) (d : Data) (ms : Members) → get_member name ms ≡ None
    → without name (put name d ms) ≡ ms
without-put name d ms none = without-put_own name d ms ∙ without-absent name ms none

-- the same of three names, and of four
pub without-three : (a b c : List ℕ) (ms : Members)
    → without a (without b (without c ms)) ≡ without c (without b (without a ms))
without-three a b c ms = rw (without-swap b c ms, without-swap a c, without-swap a b ms) refl

pub without-four : (a b c d : List ℕ) (ms : Members)
    → without a (without b (without c (without d ms))) ≡ without d (without c (without b (without a ms)))
without-four a b c d ms =
    rw (without-three b c d ms, without-swap a d, without-three a c b ms, without-swap b c (without a ms)) refl

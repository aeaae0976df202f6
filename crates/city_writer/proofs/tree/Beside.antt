-- One member in its place among others.
use Rattle.city_writer.proofs.Prelude.{◌≡◌, ℕ, List, Ordering, Less, Equal, refl, ap, ◌∙◌, arith, nat_cmp, slice_cmp}
use Rattle.city_writer.proofs.Prelude.{nat_list_cmp_total, Data, Members, no_members, member, put}
use Rattle.city_writer.proofs.Prelude.{None, Option, Some, and_parts, members_integral, subst, true}
use Rattle.city_members.specs.Integral.{is_integral}
use Rattle.serde_json.specs.declared.value.Value.{Value}
use Rattle.city_writer.specs.internal.tree.MembersLeft.{with_first}
use Rattle.city_writer.specs.internal.tree.Parted.{begins_before}
use Rattle.city_members.proofs.MemberLists.{put_equal}
use Rattle.std.proofs.Common.{Bor, Greater, ◌||◌}
use Rattle.std.specs.Prelude.{IfNone}
use Rattle.std.proofs.lemmas.Map.Lookups.{exact_bytes}
use Rattle.std.specs.Ordering.{is_lt, ordering_reverse}
use Rattle.city_members.proofs.Puts.{turned, back}

abbrev cmp : List ℕ → List ℕ → Ordering
cmp = slice_cmp nat_cmp

-- what comes before another comes before the names behind that
less_too : (k l name : List ℕ) → cmp k l ≡ Less → is_lt (cmp k name) ≡ (is_lt (cmp k name) || is_lt (cmp l name))
less_too k l name below = at (cmp l name) refl
  where
    at : (c : Ordering) → cmp l name ≡ c → is_lt (cmp k name) ≡ (is_lt (cmp k name) || is_lt (cmp l name))
    at Less is = let less = nat_list_cmp_total.trans k l name below is in rw less refl
    at Equal is = grind (arith, is)
    at Greater is = grind (arith, is)

begins_at : (c : Ordering) (name o : List ℕ) (d : Data) (k : List ℕ) (e : Data) (ms : Members) → cmp o k ≡ c
    → begins_before name (put o d (member k e ms)) ≡ (is_lt (cmp o name) || is_lt (cmp k name))
begins_at Less name o d k e ms is = rw is (less_too o k name is)
begins_at Equal name o d k e ms is =
    let same : o ≡ k = exact_bytes o k is in
    rw is (grind (arith, same))
begins_at Greater name o d k e ms is = rw is (grind (arith, less_too k o name (back o k is)))

pub begins_beside : (name o : List ℕ) (d : Data) (ms : Members)
    → begins_before name (put o d ms) ≡ (is_lt (cmp o name) || begins_before name ms)
begins_beside name o d no_members = grind arith
begins_beside name o d (member k e ms) = begins_at _ name o d k e ms refl

-- one that comes after the first of the others
pub put_after : (o : List ℕ) (d : Data) (k : List ℕ) (e : Data) (ms : Members) → cmp k o ≡ Less
    → put o d (member k e ms) ≡ member k e (put o d ms)
put_after o d k e ms less = rw (turned k o less) refl

-- one that comes before it
pub put_before : (o : List ℕ) (d : Data) (k : List ℕ) (e : Data) (ms : Members) → cmp k o ≡ Greater
    → put o d (member k e ms) ≡ member o d (member k e ms)
put_before o d k e ms greater = rw (back k o greater) refl

pub parts_integral : (k : List ℕ) (d : Data) (ms all : Members) → all ≡ member k d ms → members_integral all ≡ true
    → (is_integral d ≡ true) × (members_integral ms ≡ true)
parts_integral k d ms all is whole =
    and_parts (is_integral d) (members_integral ms) (subst (λ ns. members_integral ns ≡ true) is whole)

-- one of the same name is replaced
pub put_over : (o : List ℕ) (d : Data) (k : List ℕ) (e : Data) (ms : Members) → cmp k o ≡ Equal
    → put o d (member k e ms) ≡ member o d ms
put_over o d k e ms equal = put_equal o d k e ms (nat_list_cmp_total.antisymm o k ∙ ap ordering_reverse equal)

-- only the first says whether one comes before a name
pub begins_first : (name : List ℕ) (first : Option (Bor (List ℕ) × Bor Value)) (others : Members)
    → IfNone first (others ≡ no_members)
    → begins_before name (with_first first others) ≡ begins_before name (with_first first no_members)
begins_first name None others none = ap (begins_before name) none
begins_first name (Some m) others none = refl

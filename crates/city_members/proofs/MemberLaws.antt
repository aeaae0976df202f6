-- Members taken out and looked up.
use Rattle.city_members.proofs.Prelude.{◌≡◌, ℕ, List, [], ◌∷◌, length, Bool, true, false, None, Less, string_bytes}
use Rattle.city_members.proofs.Prelude.{refl}
use Rattle.city_members.proofs.Prelude.{arith, slice_cmp, AllByRecursion, AllZip, keys_of, lookup, is_at, no_members}
use Rattle.city_members.proofs.Prelude.{member, members_view, same_id, members_integral}
use Rattle.city_members.proofs.Ids.{same_id_true}
use Rattle.std.proofs.Common.{String, Global, string_cmp, nat_cmp}
use Rattle.std.specs.List.Sorted.{IsStrictlySortedBy}
use Rattle.std.specs.Map.{remove_entry}
use Rattle.std.proofs.lemmas.Map.{NonePasses, none_passes_from_lookup}
use Rattle.serde_json.specs.Data.{Members}
use Rattle.serde_json.specs.Find.{get_member}
use Rattle.serde_json.specs.View.{view}
use Rattle.serde_json.proofs.Views.{Entry}
use Rattle.city_members.specs.Members.{without, members_count, AllAbove, AreOrdered}

-- ---- the order of the names

all_above : (k : String Global) (es : List Entry) → AllByRecursion (λ y. string_cmp k y ≡ Less) (keys_of es)
    → AllAbove (string_bytes k) (members_view es)
all_above k [] h = tt
all_above k (e ∷ es) h = (h.0, all_above k es h.1)

pub ordered_members : (es : List Entry) → IsStrictlySortedBy string_cmp (keys_of es) → AreOrdered (members_view es)
unfolding IsStrictlySortedBy
ordered_members [] h = tt
ordered_members (e ∷ es) h = (all_above e.0 es h.0, ordered_members es h.1)

pub members_count-view : (es : List Entry) → members_count (members_view es) ≡ length es
members_count-view [] = refl
members_count-view (e ∷ es) = grind (arith, members_count-view es)

-- ---- taking out

module _ (name : List ℕ) where
  abbrev is_named : String Global → Bool
  is_named k = same_id name (string_bytes k)

  -- if no member has the name, nothing is taken out
  without_none : (es : List Entry) → NonePasses is_named es → without name (members_view es) ≡ members_view es
  without_none [] none = refl
  without_none (e ∷ es) none = grind (arith, without_none es)

  taken : (es : List Entry) → NonePasses is_named (remove_entry is_named es)
      → members_view (remove_entry is_named es) ≡ without name (members_view es)
  taken [] none = refl
  taken (e ∷ es) none = grind (arith, taken es, without_none)

  -- an entry was taken out, and no other has the name
  pub members_view-remove_entry : (es : List Entry)
      → lookup (is_at (λ k. slice_cmp nat_cmp name (string_bytes k)))
      (remove_entry (is_at (λ k. slice_cmp nat_cmp name (string_bytes k))) es) ≡ None
      → members_view (remove_entry (is_at (λ k. slice_cmp nat_cmp name (string_bytes k))) es)
      ≡ without name (members_view es)
  members_view-remove_entry es none = taken es (none_passes_from_lookup is_named (remove_entry is_named es) none)

-- ---- lookup after taking out

-- the member taken out isn't there
pub get_member-without_same : (name : List ℕ) (ms : Members) → get_member name (without name ms) ≡ None
get_member-without_same name no_members = refl
get_member-without_same name (member k d ms) = grind (arith, get_member-without_same name ms)

-- another member stays
pub get_member-without : (name other : List ℕ) (ms : Members) → same_id name other ≡ false
    → get_member name (without other ms) ≡ get_member name ms
get_member-without name other no_members apart = refl
get_member-without name other (member k d ms) apart =
    grind (arith, same_id_true other k, get_member-without name other ms)

-- ---- whole numbers

-- the others' numbers stay whole
pub members_integral-without : (name : List ℕ) (ms : Members) → members_integral ms ≡ true
    → members_integral (without name ms) ≡ true
members_integral-without name no_members h = refl
members_integral-without name (member k d ms) h = grind (arith, members_integral-without name ms)

-- ---- a clone of a JSON object stands for the same members

pub members_view_cloned : (es fs : List Entry)
    → AllZip (λ p q. (string_bytes q.0 ≡ string_bytes p.0) × (view q.1 ≡ view p.1)) es fs
    → members_view fs ≡ members_view es
members_view_cloned [] [] h = refl
members_view_cloned (e ∷ es) (f ∷ fs) h = rw (h.0.0, h.0.1, members_view_cloned es fs h.1)
members_view_cloned es fs h = absurd h

-- The members of an object before a name, and the rest.
use Rattle.std.specs.Prelude.{ℕ, List, Bool, false, if◌then◌else◌}
use Rattle.std.specs.Ordering.{nat_cmp, is_lt}
use Rattle.std.specs.Cmp.Lexicographic.{slice_cmp}
use Rattle.serde_json.specs.Data.{Members, no_members, member}

-- there is a first one, and its name comes before the name
abbrev pub begins_before : List ℕ → Members → Bool
begins_before name no_members = false
begins_before name (member k d ms) = is_lt (slice_cmp nat_cmp k name)

-- the first ones, as far as their names come before the name
abbrev pub members_before : List ℕ → Members → Members
members_before name no_members = no_members
members_before name (member k d ms) = if is_lt (slice_cmp nat_cmp k name) then member k d (members_before name ms)
    else no_members

-- the rest
abbrev pub members_from : List ℕ → Members → Members
members_from name no_members = no_members
members_from name (member k d ms) = if is_lt (slice_cmp nat_cmp k name) then members_from name ms else member k d ms

-- The members of a JSON object, with ascending names.
use Rattle.std.specs.Prelude.{◌≡◌, ◌+◌, ℕ, List, [], ◌∷◌, if◌then◌else◌}
use Rattle.std.specs.declared.cmp.Ordering.TheVariants.{Less}
use Rattle.std.specs.Ordering.{nat_cmp}
use Rattle.std.specs.Cmp.Lexicographic.{slice_cmp}
use Rattle.serde_json.specs.Data.{Members, no_members, member}
use Rattle.city_members.specs.Ids.{same_id}

abbrev pub members_count : Members → ℕ
members_count no_members = 0
members_count (member k d ms) = 1 + members_count ms

-- the members without the name
abbrev pub without : List ℕ → Members → Members
without name no_members = no_members
without name (member k d ms) = if same_id name k then without name ms else member k d (without name ms)

-- the members without the names
abbrev pub without_each : List (List ℕ) → Members → Members
without_each [] ms = ms
without_each (name ∷ names) ms = without_each names (without name ms)

abbrev pub AllAbove : List ℕ → Members → Type 0
AllAbove k no_members = Unit {0}
AllAbove k (member l d ms) = (slice_cmp nat_cmp k l ≡ Less) × AllAbove k ms

-- the names ascend, so none is there twice
abbrev pub AreOrdered : Members → Type 0
AreOrdered no_members = Unit {0}
AreOrdered (member k d ms) = AllAbove k ms × AreOrdered ms

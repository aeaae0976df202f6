-- Where a member is in a list of kept values, or where its place is.
use Rattle.std.specs.Prelude.{◌≡◌, ◌<◌, ◌≤◌, ◌+◌, ℕ, List, length, take, drop, option_map, slice_get, String}
use Rattle.serde_json.specs.Find.{get_member}
use Rattle.std.specs.declared.alloc.Global.{Global}
use Rattle.city_members.specs.Members.{without, AllAbove}
use Rattle.city_members.specs.declared.kept.kept_value.KeptValue.{KeptValue}
use Rattle.city_members.specs.internal.KeptValues.{members_data, value_data}
use Rattle.city_members.specs.internal.MemberLists.{joined, AllBelow}

-- the member of the name is at this place
pub record IsAt (ms : List (String Global × KeptValue)) (name : List ℕ) (at : ℕ) : Type 0 where
  pub within : at < length ms
  pub below : AllBelow (members_data (take at ms)) name
  pub above : AllAbove name (members_data (drop (at + 1) ms))
  pub value : get_member name (members_data ms) ≡ option_map (λ m. value_data m.1) (slice_get ms at)
  pub without_it : without name (members_data ms)
      ≡ joined (members_data (take at ms)) (members_data (drop (at + 1) ms))

-- no member has the name, and this is the place for it
pub record IsPlaceFor (ms : List (String Global × KeptValue)) (name : List ℕ) (at : ℕ) : Type 0 where
  pub within : at ≤ length ms
  pub below : AllBelow (members_data (take at ms)) name
  pub above : AllAbove name (members_data (drop at ms))

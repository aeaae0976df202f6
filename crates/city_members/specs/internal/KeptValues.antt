-- What kept values stand for.
use Rattle.std.specs.Prelude.{ℕ, suc, ◌+◌, List, [], ◌∷◌, map, string_bytes, String}
use Rattle.std.specs.declared.alloc.Global.{Global}
use Rattle.serde_json.specs.Data.{Data, null, boolean, number, string, array, object}
use Rattle.serde_json.specs.Data.{Items, no_items, item, Members, no_members, member}
use Rattle.serde_json.specs.View.{number_view, items_of}
use Rattle.city_members.specs.declared.kept.kept_value.KeptValue.{KeptValue}
use Rattle.city_members.specs.declared.kept.kept_value.KeptValue.TheVariants.{Null, Bool, Number, String as Text, Array}
use Rattle.city_members.specs.declared.kept.kept_value.KeptValue.TheVariants.{Object}
use Rattle.city_members.specs.declared.kept.members_builder.MembersBuilder.{MembersBuilder}
use Rattle.city_members.specs.declared.kept.members_builder.MembersBuilder.TheVariants.{Few, Many}

abbrev pub value_data : KeptValue → Data
value_data Null = null
value_data (Bool b) = boolean b
value_data (Number n) = number (number_view n)
value_data (Text s) = string (string_bytes s)
value_data (Array items) = array items
value_data (Object members) = object members

abbrev pub items_data : List KeptValue → Items
items_data vs = items_of (map value_data vs)

abbrev pub members_data : List (String Global × KeptValue) → Members
members_data [] = no_members
members_data (m ∷ ms) = member (string_bytes m.0) (value_data m.1) (members_data ms)

-- how many values there are, those inside others too
abbrev mutual
  pub data_size : Data → ℕ
  data_size (array ds) = suc (items_size ds)
  data_size (object ms) = suc (members_size ms)
  data_size _ = 0

  pub items_size : Items → ℕ
  items_size no_items = 0
  items_size (item d ds) = data_size d + items_size ds

  pub members_size : Members → ℕ
  members_size no_members = 0
  members_size (member k d ms) = data_size d + members_size ms

-- members put in one by one
abbrev pub members_built : MembersBuilder → Members
members_built (Few members) = members
members_built (Many map) = members_data map.entries

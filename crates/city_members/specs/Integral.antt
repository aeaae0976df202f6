-- A tree with 64-bit signed integers as its only numbers.
use Rattle.std.specs.Prelude.{Bool, true, ◌&&◌, is_some}
use Rattle.serde_json.specs.Data.{Data, null, boolean, number, string, array, object, Items, no_items, item}
use Rattle.serde_json.specs.Data.{Members, no_members, member}
use Rattle.serde_json.specs.Find.{as_i64}

abbrev mutual
  pub is_integral : Data → Bool
  is_integral null = true
  is_integral (boolean b) = true
  is_integral (number n) = is_some (as_i64 n)
  is_integral (string s) = true
  is_integral (array ds) = items_integral ds
  is_integral (object ms) = members_integral ms

  pub items_integral : Items → Bool
  items_integral no_items = true
  items_integral (item d ds) = is_integral d && items_integral ds

  pub members_integral : Members → Bool
  members_integral no_members = true
  members_integral (member k d ms) = is_integral d && members_integral ms

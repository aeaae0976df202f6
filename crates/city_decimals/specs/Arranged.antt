-- A value as the editor arranges it: the names of each object ascend, and the last value of a repeated one stays.
use Rattle.std.specs.Prelude.{ℕ, List}
use Rattle.std.specs.Ordering.{nat_cmp, match_ordering}
use Rattle.std.specs.Cmp.Lexicographic.{slice_cmp}
use Rattle.json.specs.Json.{Json, null, boolean, number, string, array, object, Items, no_items, item, Members}
use Rattle.json.specs.Json.{no_members, member}

-- the members, with j at k
abbrev pub put : List ℕ → Json → Members → Members
put k j no_members = member k j no_members
put k j (member l i ms) = match_ordering (slice_cmp nat_cmp k l) (member k j (member l i ms)) (member l j ms)
    (member l i (put k j ms))

abbrev mutual
  pub arranged : Json → Json
  arranged null = null
  arranged (boolean b) = boolean b
  arranged (number s) = number s
  arranged (string s) = string s
  arranged (array js) = array (arranged_items js)
  arranged (object ms) = object (arranged_members ms no_members)

  pub arranged_items : Items → Items
  arranged_items no_items = no_items
  arranged_items (item j js) = item (arranged j) (arranged_items js)

  -- the members go in one after another
  pub arranged_members : Members → Members → Members
  arranged_members no_members found = found
  arranged_members (member k j ms) found = arranged_members ms (put k (arranged j) found)

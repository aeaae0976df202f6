-- How deep a value nests.
use Rattle.city_decimals.proofs.Prelude.{ℕ, ◌≤◌, List, ◌∷◌, ◌++◌, Bool, true, false, length, arith, Json, null, boolean}
use Rattle.city_decimals.proofs.Prelude.{number, string, array, object, Items, no_items, item, Members, no_members}
use Rattle.city_decimals.proofs.Prelude.{member, depth, quoted, value_text, items_text, members_text, comma_if}
use Rattle.std.proofs.Common.{length-append}
use Rattle.json.specs.Tree.{items_depth, members_depth}

comma_long : (later : Bool) (xs : List ℕ) → length xs ≤ length (comma_if later ++ xs)
comma_long true xs = omega arith
comma_long false xs = omega arith

mutual
  pub value_shallow : (j : Json) → depth j ≤ length (value_text j)
  value_shallow null = omega arith
  value_shallow (boolean b) = omega arith
  value_shallow (number s) = omega arith
  value_shallow (string s) = omega arith
  value_shallow (array js) = omega (arith, items_shallow false js)
  value_shallow (object ms) = omega (arith, members_shallow false ms)

  items_shallow : (later : Bool) (js : Items) → items_depth js ≤ length (items_text later js)
  items_shallow later no_items = omega arith
  items_shallow later (item j js) =
      omega (
        arith,
        comma_long later (value_text j ++ items_text true js),
        length-append (value_text j) (items_text true js),
        value_shallow j,
        items_shallow true js,
      )

  members_shallow : (later : Bool) (ms : Members) → members_depth ms ≤ length (members_text later ms)
  members_shallow later no_members = omega arith
  members_shallow later (member k j ms) =
      omega (
        arith,
        comma_long later (quoted k ++ 58 ∷ (value_text j ++ members_text true ms)),
        length-append (quoted k) (58 ∷ (value_text j ++ members_text true ms)),
        length-append (value_text j) (members_text true ms),
        value_shallow j,
        members_shallow true ms,
      )

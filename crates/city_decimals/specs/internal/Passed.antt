-- Items that are read and written the same: whole numbers, and arrays of such items.
use Rattle.std.specs.Prelude.{◌≡◌, ◌+◌, ◌≤◌, ℕ, zero, suc, List, [], ◌++◌, length, drop, Bool, true}
use Rattle.json.specs.Json.{Json, Items, no_items, item}
use Rattle.json.specs.Tree.{items_depth, HasNumbers}
use Rattle.city_decimals.specs.Encoded.{encoded}
use Rattle.city_decimals.specs.Decoded.{decoded}
use Rattle.city_decimals.specs.internal.Compact.{comma_if, value_text, items_text}

-- neither encoding nor decoding changes the value
abbrev pub IsSame : Json → Type 0
IsSame j = HasNumbers j × (encoded j ≡ j) × (decoded j ≡ j)

abbrev pub AreSame : Items → Type 0
AreSame no_items = Unit {0}
AreSame (item j js) = IsSame j × AreSame js

-- the text of items without the closing bracket; `later` if an item stands before
abbrev pub front_text : Bool → Items → List ℕ
front_text later no_items = []
front_text later (item j js) = comma_if later ++ (value_text j ++ front_text true js)

-- whether an item stands before what follows these
abbrev pub later_after : Bool → Items → Bool
later_after later no_items = later
later_after later (item j js) = true

-- Within so many open arrays, the text goes on with unchanged items up to `end`. The innermost array has one before if
-- `later`. Each of the open arrays is closed, but not what they stand in.
abbrev pub GoesOn : ℕ → Bool → ℕ → List ℕ → List ℕ → Type 0
GoesOn zero later limit text end =
    (js : Items) × (text ≡ front_text later js ++ end) × AreSame js × (items_depth js ≤ limit)
GoesOn (suc level) later limit text end =
    (m : List ℕ) × (js : Items) × (text ≡ items_text later js ++ m) × AreSame js × (items_depth js + suc level ≤ limit)
    × GoesOn level true limit m end

-- from one place of the text to a later one stand unchanged items, with a comma between each two
abbrev pub IsPassed : List ℕ → ℕ → ℕ → Type 0
IsPassed text from to =
    (level : ℕ) (later : Bool) (limit : ℕ) (end : List ℕ) → level ≤ limit → GoesOn level true limit (drop to text) end
    → GoesOn level later limit (comma_if later ++ drop from text) end

-- the first n bytes of the text are unchanged items
abbrev pub ArePassed : Bool → ℕ → List ℕ → ℕ → Type 0
ArePassed later limit text n = (n ≤ length text) × GoesOn 0 later limit text (drop n text)

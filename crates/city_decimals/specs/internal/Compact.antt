-- The compact text of a value, as a writer prints its tokens.
use Rattle.std.specs.Prelude.{◌≡◌, ◌≤◌, ℕ, List, [], ◌∷◌, ◌++◌, Bool, true, false, cond}
use Rattle.json.specs.Token.{Token}
use Rattle.json.specs.Json.{Json, null, boolean, number, string, array, object, Items, no_items, item, Members}
use Rattle.json.specs.Json.{no_members, member}
use Rattle.json.specs.Print.{escape, quoted, token_text, IsNumber}
use Rattle.json.specs.Tree.{depth, items_depth, members_depth, HasNumbers, ItemsHaveNumbers, MembersHaveNumbers}
use Rattle.city_decimals.specs.Shapes.{is_tag, is_frame}
use Rattle.city_decimals.specs.Encoded.{encoded}
use Rattle.city_decimals.specs.internal.Copies.{Moves}

abbrev pub comma_if : Bool → List ℕ
comma_if later = cond later (44 ∷ []) []

abbrev mutual
  pub value_text : Json → List ℕ
  value_text null = token_text Token.null
  value_text (boolean b) = token_text (Token.boolean b)
  value_text (number s) = s
  value_text (string s) = quoted s
  value_text (array js) = 91 ∷ items_text false js
  value_text (object ms) = 123 ∷ members_text false ms

  -- with the closing bracket; `later` if an item stands before
  pub items_text : Bool → Items → List ℕ
  items_text later no_items = 93 ∷ []
  items_text later (item j js) = comma_if later ++ (value_text j ++ items_text true js)

  pub members_text : Bool → Members → List ℕ
  members_text later no_members = 125 ∷ []
  members_text later (member k j ms) = comma_if later ++ (quoted k ++ 58 ∷ (value_text j ++ members_text true ms))

abbrev pub triple : List ℕ → List ℕ → List ℕ → Json
triple a b c = array (item (number a) (item (number b) (item (number c) no_items)))

-- ---- the text read and the output of a copier

abbrev pub State : Type 0
State = List ℕ × List ℕ × List ℕ

-- a value j, with f j as the output
pub record IsCopied (f : Json → Json) (limit : ℕ) (old new : State) : Type 0 where
  pub j : Json
  pub moves : Moves old new (value_text j) (value_text (f j))
  pub numbers : HasNumbers j
  pub shallow : depth j ≤ limit

-- the remaining items and the bracket, with the items under g as the output
pub record AreItemsCopied (g : Items → Items) (later : Bool) (limit : ℕ) (old new : State) : Type 0 where
  pub js : Items
  pub moves : Moves old new (items_text later js) (items_text later (g js))
  pub numbers : ItemsHaveNumbers js
  pub shallow : items_depth js ≤ limit

-- the first member isn't under the tag
abbrev pub IsUntagged : Members → Type 0
IsUntagged no_members = Unit {0}
IsUntagged (member k j ms) = is_tag k ≡ false

-- the remaining members and the brace, with the members under h as the output
pub record AreMembersCopied (h : Members → Members) (later : Bool) (limit : ℕ) (old new : State) : Type 0 where
  pub ms : Members
  pub moves : Moves old new (members_text later ms) (members_text later (h ms))
  pub untagged : IsUntagged ms
  pub numbers : MembersHaveNumbers ms
  pub shallow : members_depth ms ≤ limit

-- an item, after a comma if `later`, with its value under f as the output
pub record IsItemCopied (f : Json → Json) (later : Bool) (limit : ℕ) (old new : State) : Type 0 where
  pub j : Json
  pub moves : Moves old new (comma_if later ++ value_text j) (comma_if later ++ value_text (f j))
  pub numbers : HasNumbers j
  pub shallow : depth j ≤ limit

-- the same for a member, with its value under m
pub record IsMemberCopied (m : List ℕ → Json → Json) (later : Bool) (limit : ℕ) (old new : State) : Type 0 where
  pub k : List ℕ
  pub j : Json
  pub moves : Moves old new (comma_if later ++ (quoted k ++ 58 ∷ value_text j)) (comma_if later
      ++ (quoted k ++ 58 ∷ value_text (m k j)))
  pub untagged : is_tag k ≡ false
  pub numbers : HasNumbers j
  pub shallow : depth j ≤ limit

-- the value of a frame, or the value put into one; m gives the output
pub record IsFrameCopied (m : Json → Json) (limit : ℕ) (old new : State) : Type 0 where
  pub j : Json
  pub moves : Moves old new (value_text j) (value_text (m j))
  pub frame : is_frame j ≡ true
  pub numbers : HasNumbers j
  pub shallow : depth j ≤ limit

-- a number, with its encoding as the output
pub record IsNumberCopied (old new : State) : Type 0 where
  pub s : List ℕ
  pub moves : Moves old new s (value_text (encoded (number s)))
  pub numbers : IsNumber s

-- an array of three numbers, with its encoding as the output
pub record IsTripleCopied (old new : State) : Type 0 where
  pub a : List ℕ
  pub b : List ℕ
  pub c : List ℕ
  pub moves : Moves old new (value_text (triple a b c)) (value_text (encoded (triple a b c)))
  pub numbers : HasNumbers (triple a b c)

-- a name with its colon, after a comma if `later`; key is the name's inside in the text
abbrev pub IsKeyPassed : Bool → List ℕ → State → State → Type 0
IsKeyPassed later key old new = (k : List ℕ) × (key ≡ escape k)
    × Moves old new (comma_if later ++ (quoted k ++ 58 ∷ [])) (comma_if later ++ (quoted k ++ 58 ∷ []))

-- the object of a whole text; out has its members under h
pub record IsTopCopied (h : Members → Members) (limit : ℕ) (text out : List ℕ) : Type 0 where
  pub ms : Members
  pub text_is : text ≡ value_text (object ms)
  pub out_is : out ≡ value_text (object (h ms))
  pub untagged : IsUntagged ms
  pub numbers : MembersHaveNumbers ms
  pub shallow : depth (object ms) ≤ limit

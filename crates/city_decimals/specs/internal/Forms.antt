-- The names and values of members in forms, and the tokens of a form around its value.
use Rattle.std.specs.Prelude.{◌≡◌, ◌⊎◌, ℕ, List, [], ◌∷◌, ◌++◌, get_or, Bool, true, false, ◌&&◌, ◌||◌, codes}
use Rattle.std.specs.Str.{bytes_eq}
use Rattle.json.specs.Token.{Token, begin_object, end_object, begin_array, end_array, key}
use Rattle.json.specs.Json.{Json, null, boolean, number, string, array, object, no_items, item}
use Rattle.json.specs.Tree.{json_tokens}
use Rattle.city_decimals.specs.Shapes.{tag, is_tag, is_text, three}
use Rattle.city_decimals.specs.declared.shapes.Form.{Form}
use Rattle.city_decimals.specs.declared.shapes.Form.TheVariants.{Plain, Shielded, Framed}

-- a member of this name can have a form; under `attributes` the value decides
abbrev pub can_have_form : Bool → List ℕ → Bool
can_have_form top k = (top && bytes_eq k (codes "transform")) || is_tag k

-- an object, or an array that begins with a text: under `attributes` it is neither shielded nor a shield
abbrev pub is_bare : Json → Bool
is_bare null = false
is_bare (boolean b) = false
is_bare (number s) = false
is_bare (string s) = false
is_bare (array no_items) = false
is_bare (array (item j js)) = is_text j
is_bare (object ms) = true

-- one of these begins here
abbrev pub BeginsBare : List ℕ → Type 0
BeginsBare text = (get_or text 0 0 ≡ 123) ⊎ ((get_or text 0 0 ≡ 91) × (get_or text 1 0 ≡ 34))

abbrev pub tokens_before : Form → List Token
tokens_before Plain = []
tokens_before Shielded = begin_array ∷ []
tokens_before Framed = begin_object ∷ key tag ∷ []

abbrev pub tokens_after : Form → List Token
tokens_after Plain = []
tokens_after Shielded = end_array ∷ []
tokens_after Framed =
    key (codes "scale") ∷ (json_tokens (three (codes "1"))
    ++ key (codes "translate") ∷ (json_tokens (three (codes "0")) ++ end_object ∷ []))

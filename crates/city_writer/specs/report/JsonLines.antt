-- Lines of JSON.
use Rattle.std.specs.Prelude.{◌≡◌, ℕ, List, [], ◌∷◌, ◌++◌, flat_map}
use Rattle.std.specs.List.{AllByRecursion}
use Rattle.std.specs.Str.{IsUtf8}
use Rattle.json.specs.Json.{Json}
use Rattle.json.specs.Print.{print}
use Rattle.json.specs.Tree.{json_tokens, HasNumbers}

-- the text is the compact text of a value of JSON
pub record IsCompactJson (text : List ℕ) : Type 0 where
  pub tree : Json
  pub numbers : HasNumbers tree
  pub utf8 : IsUtf8 text
  pub text_is : text ≡ print (json_tokens tree)

-- lines of JSON, each with its newline
pub record AreJsonLines (text : List ℕ) : Type 0 where
  pub lines : List (List ℕ)
  pub json : AllByRecursion IsCompactJson lines
  pub text_is : text ≡ flat_map (λ line. line ++ 10 ∷ []) lines

-- Texts with encoded numbers, found by a search.
use Rattle.std.specs.Prelude.{◌≡◌, ◌+◌, ℕ, List, [], ◌∷◌, ◌++◌, Bool, true, length}
use Rattle.json.specs.Json.{Members, no_members, member}
use Rattle.json.specs.Print.{escape, quoted, IsNumber}
use Rattle.city_decimals.specs.internal.Compact.{value_text, comma_if}
use Rattle.city_decimals.specs.internal.Needles.{Lacks, tag_name}

-- what stands before encoded numbers, with the text of the number; and what stands behind the last
abbrev pub Found : Type 0
Found = List (List ℕ × List ℕ) × List ℕ

abbrev pub number_begin : List ℕ
number_begin = 123 ∷ 34 ∷ 35 ∷ 34 ∷ 58 ∷ 34 ∷ []

abbrev pub bytes_with : List ℕ → List (List ℕ × List ℕ) → List ℕ
bytes_with last [] = last
bytes_with last (p ∷ ps) = p.0 ++ (number_begin ++ (p.1 ++ 34 ∷ 125 ∷ bytes_with last ps))

abbrev pub decoded_with : List ℕ → List (List ℕ × List ℕ) → List ℕ
decoded_with last [] = last
decoded_with last (p ∷ ps) = p.0 ++ (p.1 ++ decoded_with last ps)

-- the text with the numbers encoded, and the text with the numbers
abbrev pub bytes_of : Found → List ℕ
bytes_of p = bytes_with p.1 p.0

abbrev pub decoded_of : Found → List ℕ
decoded_of p = decoded_with p.1 p.0

abbrev pub AreFound : List ℕ → List (List ℕ × List ℕ) → Type 0
AreFound last [] = Lacks tag_name last
AreFound last (p ∷ ps) = Lacks tag_name p.0 × IsNumber p.1 × (escape p.1 ≡ p.1) × AreFound last ps

-- the tag stands nowhere else
abbrev pub IsFound : Found → Type 0
IsFound p = AreFound p.1 p.0

-- an encoded number has its tag here, with this behind it
pub record IsNumberAt (text : List ℕ) (at : ℕ) (behind : List ℕ) : Type 0 where
  pub before : List ℕ
  pub number : List ℕ
  pub is : IsNumber number
  pub plain : escape number ≡ number
  pub place : length before + 1 ≡ at
  pub text_is : text ≡ before ++ (number_begin ++ (number ++ 34 ∷ 125 ∷ behind))

-- members without the closing brace; `later` if one stands before
abbrev pub open_text : Bool → Members → List ℕ
open_text later no_members = []
open_text later (member k j ms) = comma_if later ++ (quoted k ++ 58 ∷ (value_text j ++ open_text true ms))

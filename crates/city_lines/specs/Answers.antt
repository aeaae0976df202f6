-- The lines of answers.
use Rattle.std.specs.Prelude.{◌≡◌, ℕ, List, [], ◌∷◌, ◌++◌, codes, decimal, Option, Some, None}
use Rattle.json.specs.Print.{print}
use Rattle.json.specs.Token.{Token, begin_object, end_object, key, string, number}
use Rattle.json.specs.Written.{Written}

-- the member with the hand, if it is known
abbrev pub hand_tokens : Option (List ℕ) → List Token
hand_tokens None = []
hand_tokens (Some hand) = key (codes "hand") ∷ string hand ∷ []

-- the compact text of a line's object up to these tokens: first the hand, then the `id` just as it was written
abbrev pub line_front : Option (List ℕ) → Option (List ℕ) → List Token → List ℕ
line_front hand None ts = print (begin_object ∷ (hand_tokens hand ++ ts))
line_front hand (Some id) ts =
    print (begin_object ∷ (hand_tokens hand ++ key (codes "id") ∷ [])) ++ (id ++ 44 ∷ print ts)

-- a line with these further members, and its newline
abbrev pub line_text : Option (List ℕ) → Option (List ℕ) → List Token → List ℕ
line_text hand id members = line_front hand id (members ++ end_object ∷ []) ++ 10 ∷ []

-- a line with a model's text, and its version
abbrev pub model_text : List ℕ → Option (List ℕ) → ℕ → List ℕ → List ℕ
model_text hand id version model =
    line_front (Some hand) id (key (codes "model") ∷ [])
    ++ (model ++ 44 ∷ (print (key (codes "version") ∷ number (decimal version) ∷ end_object ∷ []) ++ 10 ∷ []))

-- behind the bytes the writer has the beginning of a line of this hand and this `id`
abbrev pub IsBegun : List ℕ → Option (List ℕ) → Option (List ℕ) → Written → Type 0
IsBegun bytes hand id out =
    (ts : List Token) → out.before ++ print (out.tokens ++ ts) ≡ bytes ++ line_front hand id ts

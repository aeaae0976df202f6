-- The model of `PlainReader`. Only private clauses cite it.
use Rattle.std.specs.Prelude.{◌≡◌, ℕ, List, ◌∷◌, Bool, true}
use Rattle.json.specs.Token.{Token}
use Rattle.json.specs.Lex.{between, lex, fresh, after_value, after_comma, may_begin, may_close, punctuate}
use Rattle.json.specs.Lex as spec
use Rattle.city_reader.specs.declared.plain.Place.{Place}
use Rattle.city_reader.specs.declared.plain.Place.TheVariants.{Fresh, AfterValue, AfterComma}

abbrev pub place_of : Place → spec.Place
place_of Fresh = fresh
place_of AfterValue = after_value
place_of AfterComma = after_comma

abbrev pub tokens_at : Place → List ℕ → List Token
tokens_at place text = punctuate (place_of place) (lex between text)

abbrev pub begins_at : Place → Bool
begins_at place = may_begin (place_of place)

abbrev pub closes_at : Place → Bool
closes_at place = may_close (place_of place)

-- at any place for a value, the text `old` gives t and then the tokens of `new`
abbrev pub Begins : List ℕ → Token → Place → List ℕ → Type 0
Begins old t place new =
    (p : spec.Place) → may_begin p ≡ true → punctuate p (lex between old) ≡ t ∷ tokens_at place new

-- the same at any place for a closing bracket
abbrev pub Closes : List ℕ → Token → Place → List ℕ → Type 0
Closes old t place new =
    (p : spec.Place) → may_close p ≡ true → punctuate p (lex between old) ≡ t ∷ tokens_at place new

-- the same for a value of one word
abbrev pub IsNext : List ℕ → Token → List ℕ → Type 0
IsNext old t new =
    (p : spec.Place) → may_begin p ≡ true
    → punctuate p (lex between old) ≡ t ∷ punctuate after_value (lex between new)

-- The first token tells the kind of a value.
use Rattle.city_decimals.proofs.Prelude.{arith, ◌≡◌, ℕ, List, ◌∷◌, Some, sym, ◌∙◌, Token, Json, null, boolean, number}
use Rattle.city_decimals.proofs.Prelude.{string, array, object, Items, Members, Parse, value, value_is, decoded}
use Rattle.city_decimals.proofs.Prelude.{decoded_top, encoded, encoded_top}
use Rattle.json.specs.Json.{value_with}
use Rattle.json.specs.Reads.{token_of}
use Rattle.json.specs.declared.token.Token.TheVariants.{BeginObject}
use Rattle.json.specs.declared.token.Token as read

abbrev pub first : Json → Token
first null = Token.null
first (boolean b) = Token.boolean b
first (number s) = Token.number s
first (string s) = Token.string s
first (array js) = Token.begin_array
first (object ms) = Token.begin_object

begins : (a : Parse Items) (o : Parse Members) (t : Token) (ts : List Token) (j : Json) (r : List Token)
    → value_with a o (t ∷ ts) ≡ Some (j, r) → t ≡ first j
begins a o t ts j r e = grind arith

pub first_token : (d : ℕ) (t : Token) (ts : List Token) (j : Json) (r : List Token)
    → value d (t ∷ ts) ≡ Some (j, r) → t ≡ first j
first_token d t ts j r e = begins _ _ t ts j r (sym (value_is d (t ∷ ts)) ∙ e)

-- ---- values other than objects

top_other : (t : Token) (j : Json) → (t ≡ Token.begin_object → ⊥) → t ≡ first j → encoded_top j ≡ encoded j
top_other t j other e = grind arith

pub encoded_other : (d : ℕ) (t : Token) (ts : List Token) (j : Json) (r : List Token) → (t ≡ Token.begin_object
    → ⊥) → value d (t ∷ ts) ≡ Some (j, r) → encoded_top j ≡ encoded j
encoded_other d t ts j r other e = top_other t j other (first_token d t ts j r e)

-- a token given by a reader
pub no_brace : (t : read.Token) → (t ≡ BeginObject → ⊥) → token_of t ≡ Token.begin_object → ⊥
no_brace t other e = grind arith

-- ---- the decoding

decoded_top_other : (t : Token) (j : Json) → (t ≡ Token.begin_object → ⊥) → t ≡ first j → decoded_top j ≡ decoded j
decoded_top_other t j other e = grind arith

pub decoded_other : (d : ℕ) (t : Token) (ts : List Token) (j : Json) (r : List Token) → (t ≡ Token.begin_object
    → ⊥) → value d (t ∷ ts) ≡ Some (j, r) → decoded_top j ≡ decoded j
decoded_other d t ts j r other e = decoded_top_other t j other (first_token d t ts j r e)

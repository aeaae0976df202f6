-- The output for the value of a member `attributes`, in either direction.
use Rattle.city_decimals.proofs.Prelude.{arith, ◌≡◌, ℕ, ◌-◌, ◌<◌, ◌≤◌, List, [], ◌∷◌, ◌++◌, length, Option, Some, None}
use Rattle.city_decimals.proofs.Prelude.{refl, sym, ap, ◌∙◌, append_assoc, Token, Json, array, Items, no_items}
use Rattle.city_decimals.proofs.Prelude.{item, Parse, parse_map, value, after_end_array, json_tokens, items_tokens}
use Rattle.city_decimals.proofs.Prelude.{changed, items_changed, written, Direction}
use Rattle.std.specs.Borrow.{Bor}
use Rattle.json.proofs.Grammar.{items_end, items_more}
use Rattle.json.specs.Json.{items}
use Rattle.json.specs.Reads.{token_of}
use Rattle.json.specs.declared.token.Token.TheVariants.{BeginArray, Number}
use Rattle.json.specs.declared.token.Token as read
use Rattle.city_decimals.specs.internal.Directions.{attributes_changed}
use Rattle.city_decimals.proofs.Starts.{first, first_token}

-- ---- neither a number nor an array

no_bracket : (t : read.Token) → (t ≡ BeginArray → ⊥) → token_of t ≡ Token.begin_array → ⊥
no_bracket t other e = grind arith

no_number : (t : read.Token) → ((x : Bor (List ℕ)) → t ≡ Number x → ⊥) → (s : List ℕ) → token_of t ≡ Token.number s → ⊥
no_number t other s e = grind arith

other_changed : (way : Direction) (t : Token) (j : Json) → t ≡ first j → (t ≡ Token.begin_array → ⊥)
    → ((s : List ℕ) → t ≡ Token.number s → ⊥) → attributes_changed way j ≡ changed way j
other_changed way t j is no_array no_number = grind arith

pub attributes_other : (way : Direction) (d : ℕ) (t : read.Token) (ts : List Token) (j : Json) (r : List Token)
    → (t ≡ BeginArray → ⊥) → ((x : Bor (List ℕ)) → t ≡ Number x → ⊥) → value d (token_of t ∷ ts) ≡ Some (j, r)
    → attributes_changed way j ≡ changed way j
attributes_other way d t ts j r one two is = search (arith, other_changed, first_token, no_bracket, no_number)

-- ---- arrays

none_changed : (way : Direction) → attributes_changed way (array no_items) ≡ array no_items
none_changed way = grind arith

several_changed : (way : Direction) (j i : Json) (js : Items) → attributes_changed way (array (item j (item i js)))
    ≡ array (item (changed way j) (items_changed way (item i js)))
several_changed way j i js = grind arith

module _ (p : Parse Json) (way : Direction) where
  abbrev pub tokens_under : Items → List Token
  tokens_under js = json_tokens (attributes_changed way (array js))

  pub attributes_end : (n : ℕ) (out ts r : List Token) → length ts ≤ n → after_end_array ts ≡ Some r
      → written tokens_under out (items p n ts) ≡ Some (out ++ Token.begin_array ∷ Token.end_array ∷ [], r)
  attributes_end n out ts r enough e = search (arith, written, items_end, json_tokens, none_changed)

  pub attributes_single : (n : ℕ) (out now ts s r : List Token) (j : Json) → length ts ≤ n → length s < length ts
      → after_end_array ts ≡ None → p ts ≡ Some (j, s) → after_end_array s ≡ Some r
      → now ≡ out ++ json_tokens (attributes_changed way (array (item j no_items)))
      → written tokens_under out (items p n ts) ≡ Some (now, r)
  attributes_single n out now ts s r j enough less going is over made =
      ap (written tokens_under out) (items_more p n ts s j (omega (arith, enough, less)) going is
      ∙ ap (parse_map (item j)) (items_end p (n - 1) s r (omega (arith, enough, less)) over))
      ∙ ap (λ us. Some (us, r)) (sym made)

  several_items : (n : ℕ) (s r : List Token) (js : Items) → after_end_array s ≡ None → items p n s ≡ Some (js, r)
      → (i : Json) × (more : Items) × (js ≡ item i more)
  unfolding items
  several_items n s r js going e = grind arith

  several_written : (n : ℕ) (out now s : List Token) (j : Json) → after_end_array s ≡ None
      → now ≡ (out ++ Token.begin_array ∷ []) ++ json_tokens (changed way j)
      → (o : Option (Items × List Token)) → items p n s ≡ o
      → written tokens_under out (parse_map (item j) o) ≡ written (λ js. items_tokens (items_changed way js)) now o
  several_written n out now s j going made None e = refl
  several_written n out now s j going made (Some (js, r)) e =
      let m = several_items n s r js going e in
      grind (arith, append_assoc, several_changed way j m.0 m.1)

  pub attributes_several : (n : ℕ) (out now ts s : List Token) (j : Json) → 0 < n
      → after_end_array ts ≡ None → p ts ≡ Some (j, s) → after_end_array s ≡ None
      → now ≡ (out ++ Token.begin_array ∷ []) ++ json_tokens (changed way j)
      → written tokens_under out (items p n ts) ≡ written (λ js. items_tokens (items_changed way js)) now
      (items p (n - 1) s)
  attributes_several n out now ts s j some going is more made =
      ap (written tokens_under out) (items_more p n ts s j some going is)
      ∙ several_written (n - 1) out now s j more made (items p (n - 1) s) refl

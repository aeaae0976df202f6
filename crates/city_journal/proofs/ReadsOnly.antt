-- A text with the tokens of data is read as that data, or not at all.
use Rattle.std.proofs.Common.{◌≡◌, ◌∙◌, ◌++◌, ◌∷◌, ℕ, List, [], Option, Some, None, refl, sym, ap, subst, arith, append-nil}
use Rattle.std.specs.Prelude.{option_and_then, option_map}
use Rattle.std.specs.List.{AllByRecursion}
use Rattle.json.specs.Json.{Json, value, if_last}
use Rattle.json.specs.Lex.{tokens}
use Rattle.json.specs.Print.{print, ArePrintableOrBad}
use Rattle.json.specs.Token.{Token}
use Rattle.json.specs.Tree.{json_tokens, depth, HasNumbers, ItemsHaveNumbers}
use Rattle.json.proofs.Found.{one_reading, Some_inj}
use Rattle.json.proofs.Numbered.{ArePrintableOrBad-tokens, value-HasNumbers}
use Rattle.json.proofs.Printed.Tokens.{tokens-print}
use Rattle.json.proofs.Printed.Trees.{value-json_tokens, ArePrintable-json_tokens}
use Rattle.serde_json.specs.Data.{Data, array}
use Rattle.serde_json.specs.Read.{max_depth, of_items, of_json, read}
use Rattle.serde_json.specs.View.{items_of}
use Rattle.serde_json.specs.Written.{compact_text, items_outline, outline}
use Rattle.serde_json.proofs.Texts.{print-outline}

last : (o : Option (Json × List Token)) (j : Json) → option_and_then (λ p. if_last p.0 p.1) o ≡ Some j
    → o ≡ Some (j, [])
last o j e = grind arith

bound : {A B : Type 0} (f : A → Option B) (o : Option A) (b : B) → option_and_then f o ≡ Some b
    → (a : A) × (o ≡ Some a) × (f a ≡ Some b)
bound f o b e = grind arith

-- it is read however deep it nests, where a reader allows that
at_depth : (j : Json) (text : List ℕ) → tokens text ≡ json_tokens j → value (depth j) (tokens text) ≡ Some (j, [])
at_depth j text is =
    ap (value (depth j)) (is ∙ sym (append-nil (json_tokens j))) ∙ value-json_tokens j (depth j) [] (omega arith)

pub one_value : (text : List ℕ) (limit : ℕ) (i j : Json) → tokens text ≡ json_tokens j
    → option_and_then (λ p. if_last p.0 p.1) (value limit (tokens text)) ≡ Some i → i ≡ j
one_value text limit i j is e =
    ap (λ (p : Json × List Token). p.0) (Some_inj (i, []) (j, []) (one_reading limit (depth j) (tokens text) (i, []) (j, [])
    (last (value limit (tokens text)) i e) (at_depth j text is)))

pub reads_only : (text : List ℕ) (d e : Data) → tokens text ≡ json_tokens (outline d) → of_json (outline d) ≡ Some d
    → read text ≡ Some e → e ≡ d
reads_only text d e is back h =
    let b = bound of_json (option_and_then (λ p. if_last p.0 p.1) (value max_depth (tokens text))) e h in
    Some_inj e d (sym b.2 ∙ ap of_json (one_value text max_depth b.0 (outline d) is b.1) ∙ back)

-- tokens that were read have numbers for numbers
pub numbers_of : (text : List ℕ) (j : Json) → tokens text ≡ json_tokens j → HasNumbers j
numbers_of text j is =
    value-HasNumbers (depth j) (json_tokens j ++ []) [] j
    (subst ArePrintableOrBad (is ∙ sym (append-nil (json_tokens j))) (ArePrintableOrBad-tokens text))
    (value-json_tokens j (depth j) [] (omega arith))

pub tokens_again : (j : Json) → HasNumbers j → tokens (print (json_tokens j)) ≡ json_tokens j
tokens_again j h = tokens-print (json_tokens j) (ArePrintable-json_tokens j h)

-- data with numbers for numbers, whose outline is read as the data
pub record IsPlain (d : Data) : Type 0 where
  pub numbers : HasNumbers (outline d)
  pub back : of_json (outline d) ≡ Some d

all_numbers : (ds : List Data) → AllByRecursion IsPlain ds → ItemsHaveNumbers (items_outline (items_of ds))
all_numbers [] h = tt
all_numbers (d ∷ ds) h = (h.0.numbers, all_numbers ds h.1)

all_back : (ds : List Data) → AllByRecursion IsPlain ds → of_items (items_outline (items_of ds)) ≡ Some (items_of ds)
all_back [] h = refl
all_back (d ∷ ds) h = rw (h.0.back, all_back ds h.1) refl

pub array_tokens : (ds : List Data) → AllByRecursion IsPlain ds
    → tokens (compact_text (array (items_of ds))) ≡ json_tokens (outline (array (items_of ds)))
array_tokens ds h =
    ap tokens (sym (print-outline (array (items_of ds)))) ∙ tokens_again (outline (array (items_of ds))) (all_numbers ds h)

pub array_back : (ds : List Data) → AllByRecursion IsPlain ds
    → of_json (outline (array (items_of ds))) ≡ Some (array (items_of ds))
array_back ds h = ap (option_map array) (all_back ds h)

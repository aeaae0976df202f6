-- The texts of encoded values.
use Rattle.city_decimals.proofs.Prelude.{◌≡◌, ℕ, ◌≤◌, List, [], Bool, true, false, cond, Option, Some, refl, sym, ap}
use Rattle.city_decimals.proofs.Prelude.{◌∙◌, subst, arith, append-nil, codes, option_and_then, Token, tokens, Json}
use Rattle.city_decimals.proofs.Prelude.{null, boolean, number, string, array, object, Items, no_items, item, Members}
use Rattle.city_decimals.proofs.Prelude.{no_members, member, value, if_last, max_depth, document, print, IsNumber}
use Rattle.city_decimals.proofs.Prelude.{json_tokens, depth, HasNumbers, ItemsHaveNumbers, MembersHaveNumbers, Some_inj}
use Rattle.city_decimals.proofs.Prelude.{document-print, Data, is_whole, in_form, form_of, tagged, encoded}
use Rattle.city_decimals.proofs.Prelude.{encoded_items, encoded_members, encoded_top, IsDecoded, is_integral, Form}
use Rattle.json.specs.Word.{after_number}
use Rattle.json.proofs.Found.{one_reading}
use Rattle.json.proofs.Printed.Tokens.{tokens-print}
use Rattle.json.proofs.Printed.Trees.{value-json_tokens, ArePrintable-json_tokens}
use Rattle.city_decimals.proofs.RoundTrip.{top_back}
use Rattle.city_decimals.proofs.Wholes.{top_whole, integral, readable}
use Rattle.serde_json.specs.Read as serde

-- ---- an encoded value can be written

one_is_number : IsNumber (codes "1")
unfolding after_number
one_is_number = refl

none_is_number : IsNumber (codes "0")
unfolding after_number
none_is_number = refl

number_numbers : (b : Bool) (s : List ℕ) → IsNumber s → HasNumbers (cond b (number s) (tagged s))
number_numbers b s h = grind arith

numbers_in_form : (w : Form) (j : Json) → HasNumbers j → HasNumbers (in_form w j)
numbers_in_form w j h = search (arith, one_is_number, none_is_number)

mutual
  numbers : (j : Json) → HasNumbers j → HasNumbers (encoded j)
  numbers null h = tt
  numbers (boolean b) h = tt
  numbers (number s) h = number_numbers (is_whole s) s h
  numbers (string s) h = tt
  numbers (array js) h = items_numbers js h
  numbers (object ms) h = members_numbers false ms h

  items_numbers : (js : Items) → ItemsHaveNumbers js → ItemsHaveNumbers (encoded_items js)
  items_numbers no_items h = tt
  items_numbers (item j js) h = (numbers j h.0, items_numbers js h.1)

  members_numbers : (top : Bool) (ms : Members) → MembersHaveNumbers ms → MembersHaveNumbers (encoded_members top ms)
  members_numbers top no_members h = tt
  members_numbers top (member k j ms) h = (
    numbers_in_form (form_of top k j) (encoded j)
        (numbers j h.0),
    members_numbers top ms h.1,
  )

pub top_numbers : (j : Json) → HasNumbers j → HasNumbers (encoded_top j)
top_numbers j h = search (arith, items_numbers, members_numbers)

-- ---- a text is read as one value

last : (o : Option (Json × List Token)) (j : Json) → option_and_then (λ p. if_last p.0 p.1) o ≡ Some j
    → (rest : List Token) × (o ≡ Some (j, rest))
last o j e = grind arith

-- at any depth, the tokens of a value are read as the value
pub one_value : (j : Json) → HasNumbers j → (d : ℕ) (i : Json)
    → option_and_then (λ p. if_last p.0 p.1) (value d (tokens (print (json_tokens j)))) ≡ Some i → i ≡ j
one_value j h d i e =
    let same = tokens-print (json_tokens j) (ArePrintable-json_tokens j h) in
    let found = last (value d (json_tokens j)) i (grind arith) in
    let deep : depth j ≤ depth j = omega arith in
    let whole = ap (value (depth j)) (sym (append-nil (json_tokens j))) ∙ value-json_tokens j (depth j) [] deep in
    ap (λ p. p.0) (Some_inj _ _ (one_reading d (depth j) (json_tokens j) (i, found.0) (j, []) found.1 whole))

-- ---- the laws of an encoded text

pub lossless : (text : List ℕ) (j : Json) → document text ≡ Some j → HasNumbers j → depth j ≤ max_depth
    → (out : List ℕ) → out ≡ print (json_tokens (encoded_top j)) → (back : List ℕ) → IsDecoded out back
    → document back ≡ document text
lossless text j is h shallow out e back r = search (arith, one_value, top_numbers, top_back, document-print)

pub whole_text : (j : Json) → HasNumbers j → (out : List ℕ) → out ≡ print (json_tokens (encoded_top j))
    → (d : Data) → serde.read out ≡ Some d → is_integral d ≡ true
whole_text j h out e d r = search (arith, one_value, top_numbers, integral, top_whole)

pub text_read : (j : Json) → HasNumbers j → (out : List ℕ) → out ≡ print (json_tokens (encoded_top j))
    → (c : Json) → document out ≡ Some c → depth c ≤ serde.max_depth → (d : Data) × (serde.read out ≡ Some d)
text_read j h out e c is shallow =
    let top = encoded_top j in
    let same = one_value top (top_numbers j h) max_depth c (sym (ap document e) ∙ is) in
    let small : depth top ≤ serde.max_depth = subst (λ i. depth i ≤ serde.max_depth) same shallow in
    let printed = tokens-print (json_tokens top) (ArePrintable-json_tokens top (top_numbers j h)) in
    let found = readable top (top_whole j) in
    let parsed = ap (value serde.max_depth) (printed ∙ sym (append-nil (json_tokens top)))
    ∙ value-json_tokens top serde.max_depth [] small in grind arith

-- A compact text is the print of its value; its copy is the print of the changed value.
use Rattle.city_decimals.proofs.Prelude.{◌≤◌, Some, ◌≡◌, ℕ, [], ◌∷◌, ◌++◌, false, refl, sym, ap, ◌∙◌, arith}
use Rattle.city_decimals.proofs.Prelude.{append_assoc, append-nil, IsUtf8, null, boolean, number, string, array, object}
use Rattle.city_decimals.proofs.Prelude.{Items, no_items, item, Members, no_members, member, value, if_last}
use Rattle.city_decimals.proofs.Prelude.{document_to, print, quoted, items_tokens, members_tokens, depth}
use Rattle.city_decimals.proofs.Prelude.{option_and_then, HasNumbers, items_text, members_text, IsUntagged}
use Rattle.city_decimals.proofs.Prelude.{top_changed, IsChanged, members_changed, Direction}
use Rattle.std.proofs.Common.{List, Bool, true}
use Rattle.json.specs.Token.{Token}
use Rattle.json.specs.Json.{Json}
use Rattle.json.specs.Print.{print_from}
use Rattle.json.proofs.Printed.Tokens.{tokens-print}
use Rattle.json.proofs.Printed.Trees.{value-json_tokens, ArePrintable-json_tokens}
use Rattle.json.specs.Tree.{json_tokens}
use Rattle.city_decimals.specs.internal.Compact.{value_text, comma_if, IsTopCopied}
use Rattle.city_decimals.specs.internal.Newlines.{IsBody}
use Rattle.city_decimals.proofs.LastNewline.{same_tokens}

regroup_item : (q a b c : List ℕ) → q ++ (a ++ (b ++ c)) ≡ (q ++ (a ++ b)) ++ c
regroup_item q a b c = simp append_assoc

print_member : (k : List ℕ) (j : Json) (ms : Members) (ts : List Token)
    → print_from false (json_tokens j ++ (members_tokens ms ++ ts)) ≡ value_text j ++ print_from true
    (members_tokens ms ++ ts)
    → print_from true (members_tokens ms ++ ts) ≡ members_text true ms ++ print_from true ts
    → (quoted k ++ 58 ∷ []) ++ print_from false ((json_tokens j ++ members_tokens ms) ++ ts)
    ≡ (quoted k ++ 58 ∷ (value_text j ++ members_text true ms)) ++ print_from true ts
print_member k j ms ts value rest = search (arith, append_assoc)

mutual
  unfolding print_from

  print_value : (later : Bool) (j : Json) (ts : List Token)
      → print_from later (json_tokens j ++ ts) ≡ comma_if later ++ (value_text j ++ print_from true ts)
  print_value true null ts = refl
  print_value false null ts = refl
  print_value true (boolean b) ts = refl
  print_value false (boolean b) ts = refl
  print_value true (number s) ts = refl
  print_value false (number s) ts = refl
  print_value true (string s) ts = refl
  print_value false (string s) ts = refl
  print_value true (array js) ts = ap (λ s. 44 ∷ 91 ∷ s) (print_items false js ts)
  print_value false (array js) ts = ap (λ s. 91 ∷ s) (print_items false js ts)
  print_value true (object ms) ts = ap (λ s. 44 ∷ 123 ∷ s) (print_members false ms ts)
  print_value false (object ms) ts = ap (λ s. 123 ∷ s) (print_members false ms ts)

  print_items : (later : Bool) (js : Items) (ts : List Token)
      → print_from later (items_tokens js ++ ts) ≡ items_text later js ++ print_from true ts
  print_items true no_items ts = refl
  print_items false no_items ts = refl
  print_items later (item j js) ts =
      ap (print_from later) (append_assoc (json_tokens j) (items_tokens js) ts)
      ∙ print_value later j (items_tokens js ++ ts)
      ∙ ap (λ s. comma_if later ++ (value_text j ++ s)) (print_items true js ts)
      ∙ regroup_item (comma_if later) (value_text j) (items_text true js) (print_from true ts)

  print_members : (later : Bool) (ms : Members) (ts : List Token)
      → print_from later (members_tokens ms ++ ts) ≡ members_text later ms ++ print_from true ts
  print_members true no_members ts = refl
  print_members false no_members ts = refl
  print_members true (member k j ms) ts = ap (λ s. 44 ∷ s) (print_member k j ms ts (print_value false j
      (members_tokens ms ++ ts)) (print_members true ms ts))
  print_members false (member k j ms) ts = print_member k j ms ts (print_value false j (members_tokens ms ++ ts))
      (print_members true ms ts)

pub text_printed : (j : Json) → print (json_tokens j) ≡ value_text j
unfolding print_from
text_printed j = ap print (sym (append-nil (json_tokens j))) ∙ print_value false j [] ∙ append-nil (value_text j)

-- ---- a whole text

-- a printed value is read again, if it may nest this deep
pub read_again : (limit : ℕ) (j : Json) → HasNumbers j → depth j ≤ limit
    → document_to limit (print (json_tokens j)) ≡ Some j
read_again limit j numbers shallow = ap (option_and_then (λ p. if_last p.0 p.1))
    (ap (value limit) (tokens-print (json_tokens j) (ArePrintable-json_tokens j numbers)
    ∙ sym (append-nil (json_tokens j)))
    ∙ value-json_tokens j limit [] shallow)

-- the value of a compact text, with or without a newline behind it
top_is : (h : Members → Members) (limit : ℕ) (text body out : List ℕ) (t : IsTopCopied h limit body out)
    → IsBody text body → document_to limit text ≡ Some (object t.ms)
top_is h limit text body out t of =
    let j = object t.ms in
    let printed : print (json_tokens j) ≡ body = text_printed j ∙ sym t.text_is in
    ap (λ ts. option_and_then (λ p. if_last p.0 p.1) (value limit ts)) (same_tokens text body j of t.numbers printed)
    ∙ ap (document_to limit) (sym printed) ∙ read_again limit j t.numbers t.shallow

made_is : (way : Direction) (ms : Members) → IsUntagged ms
    → value_text (object (members_changed way true ms)) ≡ print (json_tokens (top_changed way (object ms)))
made_is way ms h = search (arith, text_printed)

pub top_made : (way : Direction) (limit : ℕ) (text body out : List ℕ) → IsBody text body
    → IsTopCopied (members_changed way true) limit body out → IsUtf8 text → IsChanged limit way text out
top_made way limit text body out of t utf8 =
    grind (arith, top_is (members_changed way true) limit text body out t of, made_is way t.ms t.untagged)

-- The text of a writer of JSON is the compact text of a value.
use Rattle.city_writer.proofs.Prelude.{◌≡◌, ℕ, List, [], ◌∷◌, ◌++◌, sym, ap, ◌∙◌, subst, arith, append-nil}
use Rattle.city_writer.proofs.Prelude.{append_assoc}
use Rattle.city_writer.proofs.Prelude.{flat_map, AllByRecursion, Data, print-outline}
use Rattle.std.specs.Str.{IsUtf8}
use Rattle.json.specs.Json.{Json}
use Rattle.json.specs.Lex.{tokens}
use Rattle.json.specs.Print.{print, ArePrintableOrBad}
use Rattle.json.specs.Tree.{json_tokens, depth, HasNumbers}
use Rattle.json.proofs.Numbered.{ArePrintableOrBad-tokens, value-HasNumbers}
use Rattle.json.proofs.Printed.Tokens.{tokens-print}
use Rattle.json.proofs.Printed.Trees.{value-json_tokens, ArePrintable-json_tokens}
use Rattle.serde_json.specs.Written.{outline, compact_text}
use Rattle.city_writer.specs.report.JsonLines.{IsCompactJson, AreJsonLines}
use Rattle.city_writer.specs.tree.Tokens.{tokens_of}

-- printable tokens of a value have numbers for numbers
numbers_of : (tree : Json) → ArePrintableOrBad (json_tokens tree) → HasNumbers tree
numbers_of tree printable =
    value-HasNumbers (depth tree) (json_tokens tree ++ []) [] tree
    (subst ArePrintableOrBad (sym (append-nil (json_tokens tree))) printable)
    (value-json_tokens tree (depth tree) [] (omega arith))

-- printable tokens of data are the tokens of their print
pub lexed_again : (d : Data) → ArePrintableOrBad (tokens_of d) → tokens (print (tokens_of d)) ≡ tokens_of d
lexed_again d printable =
    tokens-print (tokens_of d) (ArePrintable-json_tokens (outline d) (numbers_of (outline d) printable))

pub compact_json : (d : Data) → tokens (print (tokens_of d)) ≡ tokens_of d → IsUtf8 (print (tokens_of d))
    → IsCompactJson (compact_text d)
compact_json d again utf8 = record {
  tree = outline d;
  numbers = numbers_of (outline d) (subst ArePrintableOrBad again (ArePrintableOrBad-tokens (print (tokens_of d))));
  utf8 = subst IsUtf8 (print-outline d) utf8;
  text_is = sym (print-outline d);
}

-- ---- lines

each_json : (lines : List (List ℕ)) (line : List ℕ) → AllByRecursion IsCompactJson lines → IsCompactJson line
    → AllByRecursion IsCompactJson (lines ++ line ∷ [])
each_json [] line before last = (last, tt)
each_json (l ∷ ls) line before last = (before.0, each_json ls line before.1 last)

last_line : (lines : List (List ℕ)) (line : List ℕ)
    → flat_map (λ l. l ++ 10 ∷ []) (lines ++ line ∷ []) ≡ flat_map (λ l. l ++ 10 ∷ []) lines ++ (line ++ 10 ∷ [])
last_line [] line = append-nil (line ++ 10 ∷ [])
last_line (l ∷ ls) line =
    ap (λ t. (l ++ 10 ∷ []) ++ t) (last_line ls line)
    ∙ sym (append_assoc (l ++ 10 ∷ []) (flat_map (λ l. l ++ 10 ∷ []) ls) (line ++ 10 ∷ []))

-- a line more
pub line_more : (text line : List ℕ) → AreJsonLines text → IsCompactJson line → AreJsonLines (text ++ (line ++ 10 ∷ []))
line_more text line before last = record {
  lines = before.lines ++ line ∷ [];
  json = each_json before.lines line before.json last;
  text_is = ap (λ t. t ++ (line ++ 10 ∷ [])) before.text_is ∙ sym (last_line before.lines line);
}

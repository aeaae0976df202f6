-- Lines of JSON are printed lines, and so is the line of a model.
use Rattle.std.proofs.Common.{◌≡◌, ℕ, Bool, true, List, [], ◌∷◌, ◌++◌, refl, sym, ap, ◌∙◌, arith, append_assoc}
use Rattle.std.proofs.Common.{append-nil, subst}
use Rattle.std.specs.Prelude.{flat_map}
use Rattle.std.specs.List.{AllByRecursion}
use Rattle.city_decimals.specs.Lines.{HasNoNewline, ArePrinted, IsFramedTop, HasPrintedLines, IsPrintedModel}
use Rattle.city_decimals.specs.Lines.{lines_text}
use Rattle.city_decimals.proofs.CompactTexts.{text_printed}
use Rattle.city_decimals.proofs.OneLine.{printed_line}
use Rattle.json.specs.Json.{Json}
use Rattle.json.specs.Lex.{tokens}
use Rattle.json.specs.Print.{print, ArePrintableOrBad}
use Rattle.json.specs.Tree.{json_tokens, depth, HasNumbers}
use Rattle.json.proofs.Numbered.{ArePrintableOrBad-tokens, value-HasNumbers}
use Rattle.json.proofs.Printed.Trees.{value-json_tokens}
use Rattle.serde_json.proofs.Texts.{print-outline}
use Rattle.serde_json.specs.Written.{outline}
use Rattle.city_model.specs.CityMap.{CityValue}
use Rattle.city_writer.specs.document.Canonical.{city_text, tree_of}
use Rattle.city_writer.specs.report.JsonLines.{IsCompactJson, AreJsonLines}
use Rattle.city_writer.specs.tree.Tokens.{tokens_of}
use Rattle.city_serve.proofs.NewlineFree.{newlines, no_newline, value_free}

-- the lines, each with its newline
abbrev joined : List (List ℕ) → List ℕ
joined lines = flat_map (λ line. line ++ 10 ∷ []) lines

none_in_print : (j : Json) (line : List ℕ) → HasNumbers j → line ≡ print (json_tokens j) → HasNoNewline line
none_in_print j line numbers is = no_newline line (ap newlines (is ∙ text_printed j) ∙ value_free j numbers)

all_printed : (lines : List (List ℕ)) → AllByRecursion IsCompactJson lines → ArePrinted lines
all_printed [] json = tt
all_printed (l ∷ ls) json =
    let c = json.0 in (
      none_in_print c.tree l c.numbers c.text_is,
      (c.tree, (c.utf8, c.numbers, c.text_is)),
      all_printed ls json.1,
    )

joined_is : (lines : List (List ℕ)) → joined lines ≡ lines_text lines
joined_is [] = refl
joined_is (l ∷ ls) = append_assoc l (10 ∷ []) (joined ls) ∙ ap (λ t. l ++ 10 ∷ t) (joined_is ls)

pub printed_lines : (text : List ℕ) → AreJsonLines text → HasPrintedLines text
printed_lines text are = record {
  lines = are.lines;
  printed = all_printed are.lines are.json;
  text_is = are.text_is ∙ joined_is are.lines;
}

-- a tree whose tokens were read has numbers for numbers
numbers_of : (tree : Json) (text : List ℕ) → tokens text ≡ json_tokens tree → HasNumbers tree
numbers_of tree text is =
    value-HasNumbers (depth tree) (json_tokens tree ++ []) [] tree
    (subst ArePrintableOrBad (is ∙ sym (append-nil (json_tokens tree))) (ArePrintableOrBad-tokens text))
    (value-json_tokens tree (depth tree) [] (omega arith))

pub model_line : (is_framed : Bool) (city : CityValue) (text : List ℕ) → text ≡ city_text city ++ 10 ∷ []
    → AreJsonLines text → tokens (city_text city) ≡ tokens_of (tree_of city)
    → (is_framed ≡ true → IsFramedTop (outline (tree_of city))) → IsPrintedModel is_framed text
unfolding city_text
model_line is_framed city text is are lexed frame =
    let line = city_text city in
    let tree = outline (tree_of city) in
    let numbers = numbers_of tree line lexed in
    let line_is : line ≡ print (json_tokens tree) = sym (print-outline (tree_of city)) in
    let none = none_in_print tree line numbers line_is in
    let printed = printed_line text line [] (printed_lines text are) none is in
    record {
      line = line;
      tree = tree;
      one = none;
      printed = (printed.0.1.0, numbers, line_is);
      frame = frame;
      text_is = is;
    }

-- Printed lines and their decoding, by what a search finds in them.
use Rattle.city_decimals.proofs.Prelude.{◌≡◌, ℕ, List, [], ◌∷◌, ◌++◌, length, take, drop, refl, sym, ap, ◌∙◌}
use Rattle.city_decimals.proofs.Prelude.{arith, subst, Bool, Json, value_text, decoded_top}
use Rattle.city_decimals.proofs.Prelude.{AreDecodedLines}
use Rattle.city_decimals.proofs.Prelude.{ap₂, append-nil, append_assoc, take_all, length-drop, ◌-◌, ◌+◌, ◌≤◌, false}
use Rattle.std.proofs.Common.{length-append}
use Rattle.std.proofs.lemmas.List.{drop-drop}
use lib.Seq.{take_at, drop_at}
use Rattle.city_decimals.proofs.Found.{passed_free, begins_other, lacks_behind}
use Rattle.city_decimals.proofs.FramedTexts.{top_passed, line_is, line_decoded, nothing_left}
use Rattle.city_decimals.proofs.OneLine.{one_line}
use Rattle.city_decimals.specs.Lines.{ArePrinted, HasNoNewline, HasPrintedLines, IsPrinted, IsPrintedModel}
use Rattle.city_decimals.specs.Lines.{IsDecodedOutput, lines_text}
use Rattle.city_decimals.specs.internal.Sections.{IsFrameOf, section}
use Rattle.city_decimals.specs.internal.Needles.{Lacks, attributes_array}
use Rattle.city_decimals.specs.internal.Found.{Found, bytes_of, decoded_of, IsFound}

pub no_lines : AreDecodedLines [] []
no_lines = record {
  pairs = [];
  rest = [];
  decoded = tt;
  last = λ k below. absurd (omega arith);
  text_is = refl;
  out_is = refl;
}

-- what is decoded of a line with its newline, and of what stands behind
line_passed : (j : Json) (line rest : List ℕ) (p : Found) → IsPrinted j line → IsFound p
    → Lacks attributes_array (line ++ 10 ∷ rest) → bytes_of p ≡ line ++ 10 ∷ rest
    → (q : Found) × IsFound q × (bytes_of q ≡ rest) × (decoded_of p ≡ value_text (decoded_top j) ++ 10 ∷ decoded_of q)
line_passed j line rest p printed h lacks e =
    let same = ap (λ l. l ++ 10 ∷ rest) (line_is j line printed) in
    let value = top_passed j (10 ∷ rest) p printed.1 h (begins_other 10 rest (λ is. omega arith))
    (subst (Lacks attributes_array) same lacks) (e ∙ same) in
    let end = passed_free (10 ∷ []) rest value.left value.are refl value.text in (
      end.left,
      end.are,
      end.text,
      value.out ∙ ap (λ t. value_text (decoded_top j) ++ t) end.out,
    )

pub lines_decoded : (lines : List (List ℕ)) (p : Found) → ArePrinted lines → IsFound p
    → Lacks attributes_array (lines_text lines) → bytes_of p ≡ lines_text lines
    → AreDecodedLines (lines_text lines) (decoded_of p)
lines_decoded [] p are h lacks e = subst (AreDecodedLines []) (sym (nothing_left p e)) no_lines
lines_decoded (line ∷ lines) p are h lacks e =
    let j = are.1.0 in
    let first = line_passed j line (lines_text lines) p are.1.1 h lacks e in
    let others = lacks_behind attributes_array (10 ∷ []) (lines_text lines) (lacks_behind attributes_array line
    (10 ∷ lines_text lines) lacks) in
    subst (AreDecodedLines (line ++ 10 ∷ lines_text lines)) (sym first.3) (one_line line (value_text (decoded_top j))
    (lines_text lines) (decoded_of first.0) are.0 (line_decoded j line are.1.1) (lines_decoded lines first.0 are.2
    first.1 others first.2))

pub text_decoded : (text : List ℕ) (p : Found) → HasPrintedLines text → IsFound p → Lacks attributes_array text
    → bytes_of p ≡ text → AreDecodedLines text (decoded_of p)
text_decoded text p of h lacks e =
    subst (λ t. AreDecodedLines t (decoded_of p)) (sym of.text_is) (lines_decoded of.lines p of.printed h
    (subst (Lacks attributes_array) of.text_is lacks) (e ∙ of.text_is))

-- a model is a printed line
pub model_lines : (is_framed : Bool) (text : List ℕ) → IsPrintedModel is_framed text → HasPrintedLines text
model_lines is_framed text m = record {
  lines = m.line ∷ [];
  printed = (m.one, (m.tree, m.printed), tt);
  text_is = m.text_is;
}

pub model_decoded : (j : Json) (line made : List ℕ) → IsPrinted j line → HasNoNewline line
    → made ≡ value_text (decoded_top j) ++ 10 ∷ [] → AreDecodedLines (line ++ 10 ∷ []) made
model_decoded j line made printed one is =
    subst (AreDecodedLines (line ++ 10 ∷ [])) (sym is) (one_line line (value_text (decoded_top j)) [] [] one
    (line_decoded j line printed) no_lines)

-- a report and a model, one behind the other
pub output_decoded : (text out a b : List ℕ) (report n : ℕ) → out ≡ a ++ b → n ≡ length a
    → AreDecodedLines (take report text) a → AreDecodedLines (drop report text) b → IsDecodedOutput text report out n
output_decoded text out a b report n is len first second = record {
  within = omega (arith, len, ap length is, length-append a b);
  lines = subst (AreDecodedLines (take report text)) (sym (ap (take n) is ∙ take_at a b n (sym len))) first;
  model = subst (AreDecodedLines (drop report text)) (sym (ap (drop n) is ∙ drop_at a b n (sym len))) second;
}

-- ---- the sections of a model

-- without a frame all stands in the first
pub unframed : (report : ℕ) (text : List ℕ) → report ≤ length text → IsPrintedModel false (drop report text)
    → Lacks attributes_array (drop report text)
    → IsFrameOf report text (record {
      begin = length text;
      inside = length text;
      end = length text;
      behind = length text;
    })
unframed report text within model lacks =
    let len = length text in
    let zero : len - len ≡ 0 = omega arith in
    let none : section len len text ≡ [] = ap (λ n. take n (drop len text)) zero in
    record {
      begin = within;
      inside = omega arith;
      end = omega arith;
      behind = omega arith;
      within = omega arith;
      model = λ p q r hp hq hr ep eq er.
          let all = take_all (len - report) (drop report text) (omega (arith, length-drop report text)) in
          let alone = ap (λ t. decoded_of p ++ t) (ap₂ (λ a b. a ++ b) (nothing_left q (eq ∙ none)) (nothing_left r
          (er ∙ none))) ∙ append-nil (decoded_of p) in
          subst (AreDecodedLines (drop report text)) (sym alone) (text_decoded (drop report text) p (model_lines false
          (drop report text) model) hp lacks (ep ∙ all));
    }

-- where the sections of a framed model stand
module _ (report at len : ℕ) (text front t f x e last : List ℕ)
    (parts : drop report text ≡ front ++ (t ++ (f ++ (x ++ (e ++ last))))) (front_len : length front ≡ at)
    (t_len : length t ≡ 12) (f_len : length f ≡ 5) (x_len : length x ≡ len) (e_len : length e ≡ 37) where
  from : (k : ℕ) (xs ys : List ℕ) → drop report text ≡ xs ++ ys → length xs ≡ k → drop (report + k) text ≡ ys
  from k xs ys is l = sym (drop-drop k report text) ∙ ap (drop k) is ∙ drop_at xs ys k l

  pub front_is : section report (report + at + 12) text ≡ front ++ t
  front_is =
      let size : report + at + 12 - report ≡ at + 12 = omega arith in
      ap (λ n. take n (drop report text)) size ∙ ap (take (at + 12)) (parts ∙ sym (append_assoc front t _))
      ∙ take_at (front ++ t) _ (at + 12) (length-append front t ∙ omega (arith, front_len, t_len))

  pub inside_is : section (report + at + 17) (report + at + 17 + len) text ≡ x
  inside_is =
      let size : report + at + 17 + len - (report + at + 17) ≡ len = omega arith in
      let place : report + at + 17 ≡ report + (at + 17) = omega arith in
      let before : length (front ++ (t ++ f)) ≡ at + 17
      = omega (arith, length-append front (t ++ f), length-append t f, front_len, t_len, f_len) in
      ap₂ take size (ap (λ n. drop n text) place ∙ from (at + 17) (front ++ (t ++ f)) (x ++ (e ++ last)) (parts
      ∙ grouped) before) ∙ take_at x (e ++ last) len x_len
    where
      grouped : front ++ (t ++ (f ++ (x ++ (e ++ last)))) ≡ (front ++ (t ++ f)) ++ (x ++ (e ++ last))
      grouped = grind (arith, append_assoc)

  pub behind_is : section (report + at + 17 + len + 37) (length text) text ≡ last
  behind_is =
      let n = report + at + 17 + len + 37 in
      let place : n ≡ report + (at + 17 + len + 37) = omega arith in
      let before : length (front ++ (t ++ (f ++ (x ++ e)))) ≡ at + 17 + len + 37
      = omega (
        arith,
        length-append front (t ++ (f ++ (x ++ e))),
        length-append t (f ++ (x ++ e)),
        length-append f (x ++ e),
        length-append x e,
        front_len,
        t_len,
        f_len,
        x_len,
        e_len,
      ) in
      take_all (length text - n) (drop n text) (omega (arith, length-drop n text)) ∙ ap (λ k. drop k text) place
      ∙ from (at + 17 + len + 37) (front ++ (t ++ (f ++ (x ++ e)))) last (parts ∙ grouped) before
    where
      grouped : front ++ (t ++ (f ++ (x ++ (e ++ last)))) ≡ (front ++ (t ++ (f ++ (x ++ e)))) ++ last
      grouped = grind (arith, append_assoc)

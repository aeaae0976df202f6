-- Lines, one after another.
use Rattle.city_decimals.proofs.Prelude.{◌≡◌, ℕ, ◌+◌, ◌<◌, List, [], ◌∷◌, ◌++◌, length, take, drop, get_or, ap, refl}
use Rattle.city_decimals.proofs.Prelude.{◌∙◌, sym, subst, suc, arith, append_assoc, Json, IsDecodedLine}
use Rattle.city_decimals.proofs.Prelude.{AreDecodedLines}
use Rattle.std.proofs.Common.{◌⊎◌, inl, inr, length-append}
use Rattle.std.proofs.Math.Seq.{split_at}
use Rattle.std.proofs.lemmas.List.{get_or-append-add, get_or_at}
use Rattle.city_decimals.specs.Lines.{ArePairs, ArePrinted, HasNoNewline, HasPrintedLines, IsPrinted, first_text}
use Rattle.city_decimals.specs.Lines.{lines_text, second_text}

-- the rest of a text after a line
pub rest_of : (xs : List ℕ) (n : ℕ) → n < length xs → get_or xs n 0 ≡ 10 → xs ≡ take n xs ++ 10 ∷ drop (n + 1) xs
rest_of xs n h e = search (arith, split_at)

pub one_line : (line out rest more : List ℕ) → HasNoNewline line → IsDecodedLine line out → AreDecodedLines rest more
    → AreDecodedLines (line ++ 10 ∷ rest) (out ++ 10 ∷ more)
one_line line out rest more h r all =
    record {
      pairs = (line, out) ∷ all.pairs;
      rest = all.rest;
      decoded = (h, r, all.decoded);
      last = all.last;
      text_is = ap (λ t. line ++ 10 ∷ t) all.text_is;
      out_is = ap (λ t. out ++ 10 ∷ t) all.out_is;
    }

rest_has_none : (x : ℕ) (xs : List ℕ) → HasNoNewline (x ∷ xs) → HasNoNewline xs
rest_has_none x xs h k less = h (suc k) (omega (arith, less))

-- a text without a newline has no line with its own
no_line_in : (text line after : List ℕ) → HasNoNewline text → text ≡ line ++ 10 ∷ after → ⊥
no_line_in [] [] after h e = absurd (cc)
no_line_in [] (x ∷ xs) after h e = absurd (cc)
no_line_in (x ∷ xs) [] after h e = h 0 (omega arith) (grind arith)
no_line_in (x ∷ xs) (y ∷ ys) after h e = no_line_in xs ys after (rest_has_none x xs h) (grind arith)

pub no_lines_left : (text : List ℕ) → HasPrintedLines text → HasNoNewline text → text ≡ []
no_lines_left text of none = at of.lines of.text_is
  where
    at : (lines : List (List ℕ)) → text ≡ lines_text lines → text ≡ []
    at [] is = is
    at (l ∷ ls) is = absurd (no_line_in text l (lines_text ls) none is)

-- a text has one first line
one_first : (a b x y : List ℕ) → HasNoNewline a → HasNoNewline b → a ++ 10 ∷ x ≡ b ++ 10 ∷ y → (a ≡ b) × (x ≡ y)
one_first [] [] x y h i e = (refl, grind arith)
one_first [] (b ∷ bs) x y h i e = absurd (i 0 (omega arith) (grind arith))
one_first (a ∷ cs) [] x y h i e = absurd (h 0 (omega arith) (grind arith))
one_first (a ∷ cs) (b ∷ bs) x y h i e =
    let both = one_first cs bs x y (rest_has_none a cs h) (rest_has_none b bs i) (grind arith) in grind arith

-- the first of printed lines, and the others
pub printed_line : (text line after : List ℕ) → HasPrintedLines text → HasNoNewline line → text ≡ line ++ 10 ∷ after
    → ((j : Json) × IsPrinted j line) × HasPrintedLines after
printed_line text line after of none e = at of.lines of.printed (sym of.text_is ∙ e)
  where
    at : (lines : List (List ℕ)) → ArePrinted lines → lines_text lines ≡ line ++ 10 ∷ after
        → ((j : Json) × IsPrinted j line) × HasPrintedLines after
    at [] are f = absurd (no_line_in [] line after (λ k below. absurd (omega arith)) f)
    at (l ∷ ls) are f =
        let same = one_first l line (lines_text ls) after are.0 none f in (
          subst (λ t. (j : Json) × IsPrinted j t) same.0 are.1,
          record { lines = ls; printed = are.2; text_is = sym same.1 },
        )

-- a line, after the earlier output
pub done_with : (before line after : List ℕ) → before ++ (line ++ 10 ∷ after) ≡ (before ++ (line ++ 10 ∷ [])) ++ after
done_with before line after = search (arith, append_assoc)

-- ---- one text behind another

lines_then : (pairs : List (List ℕ × List ℕ)) (rest : List ℕ) → first_text pairs rest ≡ first_text pairs [] ++ rest
lines_then [] rest = refl
lines_then (p ∷ ps) rest =
    ap (λ t. p.0 ++ 10 ∷ t) (lines_then ps rest) ∙ sym (append_assoc p.0 (10 ∷ first_text ps []) rest)

-- bytes at the end of a text, without a newline, are none if it ends with one
none_end : (prefix rest before : List ℕ) → HasNoNewline rest → prefix ++ rest ≡ before ++ 10 ∷ [] → rest ≡ []
none_end prefix [] before none is = refl
none_end prefix (b ∷ bs) before none is =
    let lengths : length prefix + length bs ≡ length before =
    grind (arith, ap length is, length-append prefix (b ∷ bs), length-append before (10 ∷ [])) in
    absurd (none (length bs) (omega arith)
    (sym (get_or-append-add prefix (b ∷ bs) (length bs) 0)
    ∙ ap (λ t. get_or t (length prefix + length bs) 0) is
    ∙ get_or_at before 10 [] 0 (length prefix + length bs) (sym lengths)))

none_after : (prefix rest : List ℕ) → prefix ++ rest ≡ [] → rest ≡ []
none_after [] rest is = is
none_after (b ∷ bs) rest is = absurd (cc)

both_decoded : (ps qs : List (List ℕ × List ℕ)) → ArePairs ps → ArePairs qs → ArePairs (ps ++ qs)
both_decoded [] qs are others = others
both_decoded (p ∷ ps) qs are others = (are.0, are.1, both_decoded ps qs are.2 others)

first_behind : (ps qs : List (List ℕ × List ℕ)) (rest : List ℕ)
    → first_text (ps ++ qs) rest ≡ first_text ps [] ++ first_text qs rest
first_behind [] qs rest = refl
first_behind (p ∷ ps) qs rest =
    ap (λ t. p.0 ++ 10 ∷ t) (first_behind ps qs rest)
    ∙ sym (append_assoc p.0 (10 ∷ first_text ps []) (first_text qs rest))

second_behind : (ps qs : List (List ℕ × List ℕ)) (rest : List ℕ)
    → second_text (ps ++ qs) rest ≡ second_text ps [] ++ second_text qs rest
second_behind [] qs rest = refl
second_behind (p ∷ ps) qs rest =
    ap (λ t. p.1 ++ 10 ∷ t) (second_behind ps qs rest)
    ∙ sym (append_assoc p.1 (10 ∷ second_text ps []) (second_text qs rest))

-- a text, empty or with a newline at its end, and another one
module _ (text next out more : List ℕ) (ends : (text ≡ []) ⊎ ((before : List ℕ) × (text ≡ before ++ 10 ∷ [])))
    (first : AreDecodedLines text out) (second : AreDecodedLines next more) where
  no_rest : first.rest ≡ []
  no_rest = no_rest_by ends
    where
      no_rest_by : (text ≡ []) ⊎ ((before : List ℕ) × (text ≡ before ++ 10 ∷ [])) → first.rest ≡ []
      no_rest_by (inl is) = none_after (first_text first.pairs []) first.rest
          (sym (lines_then first.pairs first.rest) ∙ sym first.text_is ∙ is)
      no_rest_by (inr (before, is)) =
          none_end (first_text first.pairs []) first.rest before first.last
          (sym (lines_then first.pairs first.rest) ∙ sym first.text_is ∙ is)

  pub lines_joined : AreDecodedLines (text ++ next) (out ++ more)
  lines_joined = record {
    pairs = first.pairs ++ second.pairs;
    rest = second.rest;
    decoded = both_decoded first.pairs second.pairs first.decoded second.decoded;
    last = second.last;
    text_is =
        ap (λ t. t ++ next) (first.text_is ∙ ap (first_text first.pairs) no_rest)
        ∙ ap (λ t. first_text first.pairs [] ++ t) second.text_is
        ∙ sym (first_behind first.pairs second.pairs second.rest);
    out_is =
        ap (λ t. t ++ more) (first.out_is ∙ ap (second_text first.pairs) no_rest)
        ∙ ap (λ t. second_text first.pairs [] ++ t) second.out_is
        ∙ sym (second_behind first.pairs second.pairs second.rest);
  }

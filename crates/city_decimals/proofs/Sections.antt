-- Sections of an output that are decoded in its own memory.
use Rattle.city_decimals.proofs.Prelude.{◌≡◌, ℕ, ◌+◌, ◌-◌, ◌≤◌, List, [], ◌∷◌, ◌++◌, length, take, drop, refl, sym, ap}
use Rattle.city_decimals.proofs.Prelude.{ap₂}
use Rattle.city_decimals.proofs.Prelude.{◌∙◌, arith, append_assoc, subst, take_all, length-drop, length-take}
use Rattle.std.proofs.Common.{length-append}
use Rattle.std.proofs.lemmas.List.{drop-drop, take-append-drop}
use lib.Seq.{take_at, drop_at}
use Rattle.std.proofs.lemmas.Slice.{take-put_mid, drop-put_mid}
use borrow.Rule.Slice.PartMut.{put_mid}
use Rattle.city_decimals.proofs.Copies.{take_plus}
use Rattle.city_decimals.specs.internal.Found.{Found, bytes_of, decoded_of, IsFound, number_begin}
use Rattle.city_decimals.proofs.Prelude.{Bool, false, true≢false, Some, None, get_or, suc, ◌<◌, IsNumber}
use Rattle.city_decimals.proofs.Prelude.{drop-append-le}
use Rattle.std.proofs.Common.{inl, inr}
use Rattle.std.specs.Prelude.{zero}
use Rattle.std.proofs.lemmas.Bool.{cases_lt, cases_eq}
use Rattle.std.proofs.lemmas.List.{get_or_at}
use Rattle.memchr.specs.Find.{FindsNeedle, OccursAt, IsFirstByte, Passes, is_byte}
use Rattle.memchr.proofs.lemmas.MatchLemmas.{OccursAt-split}
use Rattle.city_decimals.proofs.Found.{lacks_behind, no_tag_before}
use Rattle.city_decimals.proofs.Needles.{occurs_in, lacks_found}
use Rattle.city_decimals.proofs.NumberBytes.{FailsOnNumbers, count, first_fails, later_fail, number_free}
use Rattle.city_decimals.specs.internal.Needles.{Lacks, tag_name}
use Rattle.city_decimals.specs.internal.Sections.{AreSections, IsMoved, IsDecodedTo}
use Rattle.city_decimals.specs.declared.search.FrameIndices.{FrameIndices}
use Rattle.city_decimals.specs.Lines.{IsDecodedOutput}
use Rattle.city_decimals.proofs.PrintedLines.{output_decoded}

pub drop_both : (a b : ℕ) (xs ys : List ℕ) → a ≤ b → drop a xs ≡ drop a ys → drop b xs ≡ drop b ys
drop_both a b xs ys le is =
    let sum : a + (b - a) ≡ b = omega arith in
    ap (λ n. drop n xs) (sym sum) ∙ sym (drop-drop (b - a) a xs) ∙ ap (drop (b - a)) is ∙ drop-drop (b - a) a ys
    ∙ ap (λ n. drop n ys) sum

grouped : (a b d e : List ℕ) → ((a ++ b) ++ d) ++ e ≡ a ++ (b ++ (d ++ e))
grouped a b d e = append_assoc (a ++ b) d e ∙ append_assoc a b (d ++ e)

-- ---- moving bytes down

pub moved_more : (old now ys : List ℕ) (from to done size k : ℕ) → to ≤ from → from + (done + size) ≤ length old
    → IsMoved old from to done now → k ≡ size → ys ≡ take size (drop (from + done) now)
    → IsMoved old from to (done + size) (put_mid (to + done) k now ys)
moved_more old now ys from to done size k down within h same is =
    let ys_len : length ys ≡ size
    = ap length is ∙ length-take size (drop (from + done) now) ∙ omega (arith, length-drop (from + done) now, h.len) in
    let a = to + done in
    record {
      len = grind (arith, length-append, length-take, length-drop, h.len, ys_len);
      moved = take-put_mid a k now ys (to + (done + size)) (omega (arith, ys_len)) (omega (arith, h.len))
          ∙ ap₂ (λ x y. x ++ y) h.moved (is ∙ ap (take size) h.behind) ∙ joined;
      behind = drop-put_mid a k now ys (from + (done + size)) (omega arith) (omega (arith, h.len))
          (ys_len ∙ sym same) ∙ drop_both (from + done) (from + (done + size)) now old (omega arith) h.behind;
    }
  where
    joined : (take to old ++ take done (drop from old)) ++ take size (drop (from + done) old)
        ≡ take to old ++ take (done + size) (drop from old)
    joined =
        append_assoc (take to old) (take done (drop from old)) (take size (drop (from + done) old))
        ∙ ap (λ t. take to old ++ (take done (drop from old) ++ take size t)) (sym (drop-drop done from old))
        ∙ ap (λ t. take to old ++ t) (sym (take_plus done size (drop from old)))

-- ---- decoding a section

-- the bytes before `at` are decoded up to `end`, and so many are left
pub record IsDecodedSoFar (old : List ℕ) (from to count : ℕ) (now : List ℕ) (at end left : ℕ) : Type 0 where
  pub len : length now ≡ length old
  pub place : at + left ≡ from + count
  pub down : end ≤ at
  pub below : end + left ≤ to + count
  pub behind : drop at now ≡ drop at old
  pub all : Found
  pub all_are : IsFound all
  pub all_text : bytes_of all ≡ take count (drop from old)
  pub rest : Found
  pub rest_are : IsFound rest
  pub rest_text : bytes_of rest ≡ take left (drop at now)
  pub decoded : take end now ++ decoded_of rest ≡ take to old ++ decoded_of all

-- ---- the first number of a section

pub record NumberFirst (q : Found) (tag : ℕ) : Type 0 where
  pub front : List ℕ
  pub number : List ℕ
  pub left : Found
  pub are : IsFound left
  pub is : IsNumber number
  pub place : length front + 1 ≡ tag
  pub text : bytes_of q ≡ front ++ (number_begin ++ (number ++ 34 ∷ 125 ∷ bytes_of left))
  pub out : decoded_of q ≡ front ++ (number ++ decoded_of left)

pub number_first : (q : Found) (tag : ℕ) → IsFound q → FindsNeedle (bytes_of q) tag_name 0 (Some tag)
    → NumberFirst q tag
number_first ([], last) tag h found =
    absurd (h (take tag last) (drop (tag + 4) last) (sym (take-append-drop tag last)
    ∙ ap (λ t. take tag last ++ t) (OccursAt-split last tag_name tag found.1)))
number_first ((front, s) ∷ ps, last) tag h found = record {
  front = front;
  number = s;
  left = (ps, last);
  are = h.3;
  is = h.1;
  place = place;
  text = refl;
  out = refl;
}
  where
    all : List ℕ
    all = bytes_of ((front, s) ∷ ps, last)

    rest : List ℕ
    rest = 34 ∷ 35 ∷ 34 ∷ 58 ∷ 34 ∷ (s ++ 34 ∷ 125 ∷ bytes_of (ps, last))

    here : OccursAt all tag_name (length (front ++ 123 ∷ []))
    here = occurs_in all (front ++ 123 ∷ []) tag_name (drop 4 rest) (sym (append_assoc front (123 ∷ []) rest))

    len : length (front ++ 123 ∷ []) ≡ length front + 1
    len = length-append front (123 ∷ [])

    early : tag < length front + 1 → ⊥
    early less =
        no_tag_before (drop tag front) rest (drop (tag + 4) all)
        (lacks_behind tag_name (take tag front) (drop tag front) (subst (Lacks tag_name)
        (sym (take-append-drop tag front)) h.0))
        (sym (drop-append-le tag front (123 ∷ rest) (omega (arith, less)))
        ∙ OccursAt-split all tag_name tag found.1)

    place : length front + 1 ≡ tag
    place = elim (cases_lt tag (length front + 1)) [
      | inl less ↦ absurd (early less)
      | inr more ↦ elim (cases_eq (length front + 1) tag) [
        | inl same ↦ same
        | inr other ↦
            absurd (found.0.before (length (front ++ 123 ∷ [])) (omega arith) (omega (arith, more, other, len)) here)
      ]
    ]

quotes_fail : FailsOnNumbers (is_byte 34)
quotes_fail = record {
  plus = refl;
  minus = refl;
  dot = refl;
  digits = λ x low high. grind arith;
  upper = refl;
  lower = refl;
}

fails_at : (f : ℕ → Bool) (s : List ℕ) (k : ℕ) → count f s ≡ 0 → k < length s → f (get_or s k 0) ≡ false
fails_at f [] k none below = absurd (omega arith)
fails_at f (x ∷ s) zero none below = first_fails f x s none
fails_at f (x ∷ s) (suc k) none below = fails_at f s k (later_fail f x s none) (omega (arith, below))

in_front : (s r : List ℕ) (k : ℕ) → k < length s → get_or (s ++ r) k 0 ≡ get_or s k 0
in_front [] r k below = absurd (omega arith)
in_front (x ∷ s) r zero below = refl
in_front (x ∷ s) r (suc k) below = in_front s r k (omega (arith, below))

-- behind a number the first quote is its end
module _ (s r : List ℕ) (number : IsNumber s) where
  quote_here : Passes (is_byte 34) (s ++ 34 ∷ r) (length s)
  quote_here = ap (is_byte 34) (get_or_at s 34 r 0 (length s) refl)

  pub no_quote : IsFirstByte (is_byte 34) (s ++ 34 ∷ r) None → ⊥
  no_quote none = none (length s) (omega arith) (omega (arith, length-append s (34 ∷ r))) quote_here

  pub quote_first : (n : ℕ) → IsFirstByte (is_byte 34) (s ++ 34 ∷ r) (Some n) → n ≡ length s
  quote_first n found = elim (cases_lt n (length s)) [
    | inl less ↦ absurd (true≢false (sym found.1 ∙ ap (is_byte 34) (in_front s (34 ∷ r) n less)
        ∙ fails_at (is_byte 34) s n (number_free (is_byte 34) quotes_fail s number) less))
    | inr more ↦ elim (cases_eq (length s) n) [
      | inl same ↦ sym same
      | inr other ↦ absurd (found.0.before (length s) (omega arith) (omega (arith, more, other)) quote_here)
    ]
  ]

-- ---- one more number

module _ (old now : List ℕ) (from to count at end left tag : ℕ) (within : from + count ≤ length old)
    (h : IsDecodedSoFar old from to count now at end left)
    (found : FindsNeedle (take left (drop at now)) tag_name 0 (Some tag)) where
  pub first : NumberFirst h.rest tag
  first = number_first h.rest tag h.rest_are (subst (λ t. FindsNeedle t tag_name 0 (Some tag)) (sym h.rest_text) found)

  -- what the section has behind the number, and what stands behind the section
  abbrev more : List ℕ
  more = bytes_of first.left ++ drop left (drop at now)

  abbrev ending : List ℕ
  ending = 34 ∷ 125 ∷ more

  pub before_is : length first.front ≡ tag - 1
  before_is = omega (arith, first.place)

  pub tag_is : 1 ≤ tag
  tag_is = omega (arith, first.place)

  whole : drop at now ≡ first.front ++ (number_begin ++ (first.number ++ ending))
  whole =
      sym (take-append-drop left (drop at now)) ∙ ap (λ t. t ++ drop left (drop at now)) (sym h.rest_text ∙ first.text)
      ∙ regroup first.front first.number (bytes_of first.left) (drop left (drop at now))
    where
      regroup : (f s b t : List ℕ) → (f ++ (number_begin ++ (s ++ 34 ∷ 125 ∷ b))) ++ t
          ≡ f ++ (number_begin ++ (s ++ 34 ∷ 125 ∷ (b ++ t)))
      regroup f s b t = grind (arith, append_assoc)

  pub left_is : left ≡ (tag - 1) + 6 + length first.number + 2 + length (bytes_of first.left)
  left_is =
      let long : length (take left (drop at now)) ≡ left
      = omega (arith, length-take left (drop at now), length-drop at now, h.len, h.place, within) in
      let parts = ap length (sym h.rest_text ∙ first.text) in
      omega (
        arith,
        long,
        parts,
        length-append first.front (number_begin ++ (first.number ++ 34 ∷ 125 ∷ bytes_of first.left)),
        length-append first.number (34 ∷ 125 ∷ bytes_of first.left),
        before_is,
      )

  -- the text from the number on
  pub number_text : drop (at + (tag - 1) + 6) now ≡ first.number ++ ending
  number_text =
      ap (λ n. drop n now) sum ∙ sym (drop-drop ((tag - 1) + 6) at now) ∙ ap (drop ((tag - 1) + 6)) (whole
      ∙ sym (append_assoc first.front number_begin (first.number ++ ending)))
      ∙ drop_at (first.front ++ number_begin) (first.number ++ ending) ((tag - 1) + 6)
      (length-append first.front number_begin ∙ omega (arith, before_is))
    where
      sum : at + (tag - 1) + 6 ≡ at + ((tag - 1) + 6)
      sum = omega arith

  module _ (one : List ℕ) (front_moved : IsMoved now at end (tag - 1) one) where
    pub number_there : drop (at + (tag - 1) + 6) one ≡ first.number ++ ending
    number_there =
        drop_both (at + (tag - 1)) (at + (tag - 1) + 6) one now (omega arith) front_moved.behind ∙ number_text

    there : take (length one - (at + (tag - 1) + 6)) (drop (at + (tag - 1) + 6) one) ≡ first.number ++ ending
    there =
        take_all (length one - (at + (tag - 1) + 6)) (drop (at + (tag - 1) + 6) one) (omega
        (arith, length-drop (at + (tag - 1) + 6) one)) ∙ number_there

    pub quote_there : IsFirstByte (is_byte 34)
        (take (length one - (at + (tag - 1) + 6)) (drop (at + (tag - 1) + 6) one)) None → ⊥
    quote_there none =
        no_quote first.number (125 ∷ more) first.is (subst (λ t. IsFirstByte (is_byte 34) t None) there none)

    pub number_len : (len : ℕ)
        → IsFirstByte (is_byte 34) (take (length one - (at + (tag - 1) + 6)) (drop (at + (tag - 1) + 6) one)) (Some len)
        → len ≡ length first.number
    number_len len found_there =
        quote_first first.number (125 ∷ more) first.is len (subst (λ t. IsFirstByte (is_byte 34) t (Some len)) there
        found_there)

    module _ (two : List ℕ) (len : ℕ) (same : len ≡ length first.number)
        (number_moved : IsMoved one (at + (tag - 1) + 6) (end + (tag - 1)) len two) where
      rest_there : drop (at + (tag - 1) + 6 + len + 2) two ≡ more
      rest_there =
          drop_both (at + (tag - 1) + 6 + len) (at + (tag - 1) + 6 + len + 2) two one (omega arith) number_moved.behind
          ∙ ap (λ n. drop n one) sum ∙ sym (drop-drop (len + 2) (at + (tag - 1) + 6) one)
          ∙ ap (drop (len + 2)) (number_there ∙ sym (append_assoc first.number (34 ∷ 125 ∷ []) more))
          ∙ drop_at (first.number ++ 34 ∷ 125 ∷ []) more (len + 2)
          (length-append first.number (34 ∷ 125 ∷ []) ∙ omega (arith, same))
        where
          sum : at + (tag - 1) + 6 + len + 2 ≡ at + (tag - 1) + 6 + (len + 2)
          sum = omega arith

      written : take (end + (tag - 1 + len)) two ≡ (take end now ++ first.front) ++ first.number
      written =
          ap (λ n. take n two) sum ∙ number_moved.moved ∙ ap₂ (λ a b. a ++ b) (front_moved.moved
          ∙ ap (λ t. take end now ++ t) (ap (take (tag - 1)) whole ∙ take_at first.front _ (tag - 1) before_is))
          (ap (take len) number_there ∙ take_at first.number ending len (sym same))
        where
          sum : end + (tag - 1 + len) ≡ end + (tag - 1) + len
          sum = omega arith

      pub decoded_more : IsDecodedSoFar old from to count two (at + (tag - 1) + 6 + len + 2) (end + (tag - 1 + len))
          (left - (tag - 1 + 6 + len + 2))
      decoded_more = record {
        len = number_moved.len ∙ front_moved.len ∙ h.len;
        place = omega (arith, h.place, left_is, same);
        down = omega (arith, h.down);
        below = omega (arith, h.below, left_is, same);
        behind = drop_both (at + (tag - 1) + 6 + len) (at + (tag - 1) + 6 + len + 2) two one (omega arith)
            number_moved.behind ∙ drop_both (at + (tag - 1)) (at + (tag - 1) + 6 + len + 2) one now (omega arith)
            front_moved.behind ∙ drop_both at (at + (tag - 1) + 6 + len + 2) now old (omega arith) h.behind;
        all = h.all;
        all_are = h.all_are;
        all_text = h.all_text;
        rest = first.left;
        rest_are = first.are;
        rest_text = sym (ap (take (left - (tag - 1 + 6 + len + 2))) rest_there ∙ take_at (bytes_of first.left)
            (drop left (drop at now)) (left - (tag - 1 + 6 + len + 2)) (omega (arith, left_is, same)));
        decoded = ap (λ t. t ++ decoded_of first.left) written
            ∙ grouped (take end now) first.front first.number (decoded_of first.left)
            ∙ ap (λ t. take end now ++ t) (sym first.out) ∙ h.decoded;
      }

-- ---- the end of a section

no_number_left : (q : Found) → IsFound q → FindsNeedle (bytes_of q) tag_name 0 None → decoded_of q ≡ bytes_of q
no_number_left ([], last) h none = refl
no_number_left ((front, s) ∷ ps, last) h none =
    absurd (lacks_found (bytes_of ((front, s) ∷ ps, last)) tag_name None none refl (front ++ 123 ∷ [])
    (34 ∷ (s ++ 34 ∷ 125 ∷ bytes_of (ps, last))) (sym (append_assoc front (123 ∷ []) _)))

pub whole_section : (old now new : List ℕ) (from to count at end left : ℕ)
    → (h : IsDecodedSoFar old from to count now at end left)
    → FindsNeedle (take left (drop at now)) tag_name 0 None → IsMoved now at end left new
    → IsDecodedTo old from to count new (end + left)
whole_section old now new from to count at end left h none m = record {
  len = m.len ∙ h.len;
  below = h.below;
  found = h.all;
  are = h.all_are;
  text = h.all_text;
  decoded = m.moved ∙ ap (λ t. take end now ++ t) (sym h.rest_text ∙ sym (no_number_left h.rest h.rest_are
      (subst (λ t. FindsNeedle t tag_name 0 None) (sym h.rest_text) none))) ∙ h.decoded;
  behind = subst (λ n. drop n new ≡ drop n old) h.place (m.behind ∙ drop_both at (at + left) now old (omega arith)
      h.behind);
}

-- ---- all sections

module _ (report : ℕ) (text one two : List ℕ) (f : FrameIndices) (h : AreSections report text f) (lines second : ℕ)
    (first_is : IsDecodedTo text 0 0 report one lines)
    (second_is : IsDecodedTo one report lines (f.begin - report) two second) where
  behind_lines : drop report one ≡ drop report text
  behind_lines =
      let zero_more : 0 + report ≡ report = omega arith in
      subst (λ n. drop n one ≡ drop n text) zero_more first_is.behind

  pub behind_front : drop f.inside two ≡ drop f.inside text
  behind_front =
      let end : report + (f.begin - report) ≡ f.begin = omega (arith, h.frame.begin) in
      drop_both f.begin f.inside two text h.frame.inside (subst (λ n. drop n two ≡ drop n one) end second_is.behind
      ∙ drop_both report f.begin one text h.frame.begin behind_lines)

  module _ (three : List ℕ) (third : ℕ) (third_is : IsDecodedTo two f.inside second (f.end - f.inside) three third)
    where
      pub behind_inside : drop f.behind three ≡ drop f.behind text
      behind_inside =
          let end : f.inside + (f.end - f.inside) ≡ f.end = omega (arith, h.frame.end) in
          drop_both f.end f.behind three text h.frame.behind (subst (λ n. drop n three ≡ drop n two) end third_is.behind
          ∙ drop_both f.inside f.end two text h.frame.end behind_front)

      pub sections_decoded : (four : List ℕ) (fourth : ℕ)
          → IsDecodedTo three f.behind third (length text - f.behind) four fourth
          → IsDecodedOutput text report (take fourth four) lines
      sections_decoded four fourth fourth_is =
          let p = decoded_of first_is.found in
          let q = decoded_of second_is.found in
          let r = decoded_of third_is.found in
          let s = decoded_of fourth_is.found in
          let out = fourth_is.decoded ∙ ap (λ t. t ++ s) (third_is.decoded ∙ ap (λ t. t ++ r) (second_is.decoded
          ∙ ap (λ t. t ++ q) first_is.decoded)) ∙ grouped p q r s in
          let len : lines ≡ length p = omega (
            arith,
            ap length first_is.decoded,
            length-take lines one,
            first_is.len,
            first_is.below,
            h.frame.begin,
            h.frame.inside,
            h.frame.end,
            h.frame.behind,
            h.frame.within,
          ) in
          output_decoded text (take fourth four) p (q ++ (r ++ s)) report lines out len
          (h.lines first_is.found first_is.are first_is.text)
          (h.frame.model second_is.found third_is.found fourth_is.found second_is.are third_is.are fourth_is.are
          (second_is.text ∙ ap (take (f.begin - report)) behind_lines)
          (third_is.text ∙ ap (take (f.end - f.inside)) behind_front)
          (fourth_is.text ∙ ap (take (length text - f.behind)) behind_inside))

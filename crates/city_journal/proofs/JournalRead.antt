-- A journal's lines, taken one after another.
use Rattle.std.proofs.Common.{◌≡◌, ◌≢◌, ◌<◌, ◌≤◌, ◌∙◌, ◌+◌, ◌⊎◌, inl, inr, ℕ, zero, suc, List, [], ◌∷◌, ◌++◌, Bool, true, false, None, Some}
use Rattle.std.proofs.Common.{refl, sym, ap, arith, append_assoc, append-nil, length, take, drop, get_or, map, eq-eqb, eqb-true, ◌==◌, nat_lt}
use Rattle.std.specs.Bool.{beq}
use Rattle.std.proofs.Common.{not, Err, IsErrAnd, MatchResult, Ok, Result}
use Rattle.std.proofs.lemmas.Bool.{cases_lt, or_parts}
use Rattle.std.proofs.lemmas.List.{drop_at, get_or-drop, length-append, length-drop, take_at}
use Rattle.std.proofs.lemmas.Bool.Decides.{nat_tests}
use Rattle.std.proofs.Math.Seq.{get_or-append_seam}
use Rattle.std.specs.List.{list_any}
use Rattle.memchr.specs.Find.{IsFirstByte, is_byte}
use Rattle.city_journal.specs.Lines.{EndsLine, IsLine, lines_text}
use Rattle.city_journal.proofs.Lines.{drop_twice}
use Rattle.city_journal.specs.Reads.{AreKeys, AreNext, IsNext, SoFar, all_said, begun, so_far, with_said}
use Rattle.city_journal.specs.Said.{Said, said_text}
use Rattle.city_journal.specs.Said.Said.{Committed, Keyed, Saved}
use Rattle.city_journal.specs.declared.model_sum.ModelSum.{ModelSum}
use Rattle.city_journal.specs.declared.read.Commit.{Commit}
use Rattle.city_journal.specs.declared.reading.Place.{Place}

-- ---- the first newline

no_newline : (l rest : List ℕ) (k : ℕ) → IsLine l → k < length l → get_or (l ++ rest) k 0 ≢ 10
no_newline [] rest k is lt e = omega (arith, lt)
no_newline (c ∷ l) rest zero is lt e =
    let parts = or_parts (c == 10) (list_any (λ x. x == 10) l) is in
    let t : (c == 10) ≡ true = eq-eqb c 10 e in
    absurd (cc (parts.0, t))
no_newline (c ∷ l) rest (suc k) is lt e =
    let parts = or_parts (c == 10) (list_any (λ x. x == 10) l) is in
    no_newline l rest k parts.1 (omega (arith, lt)) e

module _ (l rest : List ℕ) (is : IsLine l) where
  newline_at : get_or (l ++ 10 ∷ rest) (length l) 0 ≡ 10
  newline_at = get_or-append_seam l 10 rest 0

  fits : length (l ++ 10 ∷ rest) ≡ length l + suc (length rest)
  fits = length-append l (10 ∷ rest)

  first_by : (k : ℕ) → IsFirstByte (is_byte 10) (l ++ 10 ∷ rest) (Some k) → (k < length l) ⊎ (length l ≤ k)
      → (length l < k) ⊎ (k ≤ length l) → k ≡ length l
  first_by k h (inl lt) other = absurd (no_newline l (10 ∷ rest) k is lt (eqb-true _ 10 h.1))
  first_by k h (inr le) (inl lt) = absurd (h.0.before (length l) (omega arith) lt (eq-eqb _ 10 newline_at))
  first_by k h (inr le) (inr ge) = omega arith

  pub newline_is : (k : ℕ) → IsFirstByte (is_byte 10) (l ++ 10 ∷ rest) (Some k) → k ≡ length l
  newline_is k h = first_by k h (cases_lt k (length l)) (cases_lt (length l) k)

  pub has_newline : IsFirstByte (is_byte 10) (l ++ 10 ∷ rest) None → ⊥
  has_newline h = h (length l) (omega arith) (omega (arith, fits)) (eq-eqb _ 10 newline_at)

pub none_in_line : (l : List ℕ) (k : ℕ) → IsLine l → IsFirstByte (is_byte 10) l (Some k) → ⊥
none_in_line l k is h =
    let e : l ++ [] ≡ l = append-nil l in
    no_newline l [] k is h.0.high (ap (λ x. get_or x k 0) e ∙ eqb-true _ 10 h.1)

-- ---- what is left of the lines

-- these lines are left, behind which a part of one stands
pub record AreLeft (r : SoFar) (bytes torn : List ℕ) (end : SoFar) : Type 0 where
  pub ss : List Said
  pub next : AreNext r ss
  pub text : bytes ≡ lines_text (map said_text ss) ++ torn
  pub ends : all_said r ss ≡ end

-- nothing is left but the part
pub record IsOver (r : SoFar) (bytes torn : List ℕ) (end : SoFar) : Type 0 where
  pub text : bytes ≡ torn
  pub ends : r ≡ end

-- one line more is there
pub record IsMore (r : SoFar) (bytes torn : List ℕ) (end : SoFar) : Type 0 where
  pub s : Said
  pub rest : List ℕ
  pub next : IsNext r.version s
  pub text : bytes ≡ said_text s ++ 10 ∷ rest
  pub left : AreLeft (with_said r s) rest torn end

split_left : (r : SoFar) (bytes torn : List ℕ) (end : SoFar) (ss : List Said) → AreNext r ss
    → bytes ≡ lines_text (map said_text ss) ++ torn → all_said r ss ≡ end
    → IsOver r bytes torn end ⊎ IsMore r bytes torn end
split_left r bytes torn end [] next text ends = inl (record { text = text; ends = ends })
split_left r bytes torn end (s ∷ ss) next text ends = inr (record {
  s = s;
  rest = lines_text (map said_text ss) ++ torn;
  next = next.0;
  text = text ∙ append_assoc (said_text s ++ 10 ∷ []) (lines_text (map said_text ss)) torn
      ∙ append_assoc (said_text s) (10 ∷ []) (lines_text (map said_text ss) ++ torn);
  left = record { ss = ss; next = next.1; text = refl; ends = ends };
})

pub is_over_or_more : (r : SoFar) (bytes torn : List ℕ) (end : SoFar) → AreLeft r bytes torn end
    → IsOver r bytes torn end ⊎ IsMore r bytes torn end
is_over_or_more r bytes torn end left = split_left r bytes torn end left.ss left.next left.text left.ends

over_by : (r : SoFar) (bytes torn : List ℕ) (end : SoFar) → IsFirstByte (is_byte 10) bytes None
    → IsOver r bytes torn end ⊎ IsMore r bytes torn end → IsOver r bytes torn end
over_by r bytes torn end no_byte (inl over) = over
over_by r bytes torn end no_byte (inr more) =
    absurd (has_newline (said_text more.s) more.rest more.next.is_line (rw more.text at no_byte))

-- no newline is left
pub over_without : (r : SoFar) (bytes torn : List ℕ) (end : SoFar) → IsFirstByte (is_byte 10) bytes None
    → AreLeft r bytes torn end → IsOver r bytes torn end
over_without r bytes torn end no_byte left = over_by r bytes torn end no_byte (is_over_or_more r bytes torn end left)

more_by : (r : SoFar) (bytes torn : List ℕ) (end : SoFar) (k : ℕ) → IsLine torn → IsFirstByte (is_byte 10) bytes (Some k)
    → IsOver r bytes torn end ⊎ IsMore r bytes torn end → IsMore r bytes torn end
more_by r bytes torn end k is byte (inl over) = absurd (none_in_line torn k is (rw over.text at byte))
more_by r bytes torn end k is byte (inr more) = more

-- there is one
pub more_with : (r : SoFar) (bytes torn : List ℕ) (end : SoFar) (k : ℕ) → IsLine torn
    → IsFirstByte (is_byte 10) bytes (Some k) → AreLeft r bytes torn end → IsMore r bytes torn end
more_with r bytes torn end k is byte left = more_by r bytes torn end k is byte (is_over_or_more r bytes torn end left)

-- the line before the first newline, and what is behind it
module _ (bytes l rest : List ℕ) (k : ℕ) (is : IsLine l) (text : bytes ≡ l ++ 10 ∷ rest)
    (byte : IsFirstByte (is_byte 10) bytes (Some k)) where
  pub place : k ≡ length l
  place = newline_is l rest is k (rw text at byte)

  pub line_is : take k bytes ≡ l
  line_is = ap (take k) text ∙ take_at l (10 ∷ rest) k (sym place)

  pub rest_is : drop (k + 1) bytes ≡ rest
  rest_is =
      let all : length (l ++ 10 ∷ []) ≡ k + 1 = omega (arith, length-append l (10 ∷ []), place) in
      ap (drop (k + 1)) (text ∙ sym (append_assoc l (10 ∷ []) rest)) ∙ drop_at (l ++ 10 ∷ []) rest (k + 1) all

-- at the end of the bytes the part is empty
pub over_at_end : (r : SoFar) (torn : List ℕ) (end : SoFar) → AreLeft r [] torn end → (torn ≡ []) × (r ≡ end)
over_at_end r torn end left = end_by (is_over_or_more r [] torn end left) where
  end_by : IsOver r [] torn end ⊎ IsMore r [] torn end → (torn ≡ []) × (r ≡ end)
  end_by (inl over) = (sym over.text, over.ends)
  end_by (inr more) = absurd (omega (arith, ap length more.text, length-append (said_text more.s) (10 ∷ more.rest)))

pub first_line : (bytes l rest : List ℕ) (ls : List (List ℕ)) → bytes ≡ lines_text (l ∷ ls) ++ rest
    → bytes ≡ l ++ 10 ∷ (lines_text ls ++ rest)
first_line bytes l rest ls e =
    e ∙ append_assoc (l ++ 10 ∷ []) (lines_text ls) rest ∙ append_assoc l (10 ∷ []) (lines_text ls ++ rest)

-- ---- a place in the bytes, and the lines behind it

pub ends_next : (bytes : List ℕ) (at k : ℕ) → IsFirstByte (is_byte 10) (drop at bytes) (Some k) → at < length bytes
    → EndsLine bytes (at + k + 1)
ends_next bytes at k byte lt = record {
  last = at + k;
  behind = refl;
  within = omega (arith, byte.0.high, length-drop at bytes, lt);
  newline = sym (get_or-drop at bytes k 0) ∙ eqb-true _ 10 byte.1;
}

pub next_left : (bytes torn : List ℕ) (end r : SoFar) (at k : ℕ)
    → (more : IsMore r (drop at bytes) torn end) → IsFirstByte (is_byte 10) (drop at bytes) (Some k) → (new : SoFar)
    → new ≡ with_said r more.s → AreLeft new (drop (at + k + 1) bytes) torn end
next_left bytes torn end r at k more byte new is =
    let n : at + (k + 1) ≡ at + k + 1 = omega arith in
    let rest : drop (at + k + 1) bytes ≡ more.rest = ap (λ i. drop i bytes) (sym n) ∙ sym (drop_twice (k + 1) at bytes)
    ∙ rest_is (drop at bytes) (said_text more.s) more.rest k more.next.is_line more.text byte in
    rw (is, rest) more.left

pub some_left : (bytes torn : List ℕ) (at : ℕ) → at < length bytes → drop at bytes ≡ torn → nat_lt 0 (length torn) ≡ true
some_left bytes torn at lt e = grind (arith, nat_tests, length-drop at bytes, ap length e)

-- ---- what is read of the first line

abbrev pub base_place : ModelSum → Place
base_place s = record { sum = s; before = 0 }

pub begun_is : (commits : List Commit) (places : List Place) (s : ModelSum) (n : ℕ) (sum : List ℕ) (version : ℕ)
    → commits ≡ [] → places ≡ base_place s ∷ [] → s.bytes ≡ sum → n ≡ version
    → so_far commits places n ≡ begun sum version
begun_is commits places s n sum version e f g h = rw (e, f, sym g, h) refl

pub of_error : {T E : Type 0} (e : E) (P : T → Type 0) (Q : E → Type 0) (r : Result T E) → IsErrAnd r (λ x. x ≡ e)
    → Q e → MatchResult r P Q
of_error e P Q (Ok v) is q = absurd is
of_error e P Q (Err x) is q = rw is q

pub same_bool : (a b : Bool) → not (beq a b) ≡ false → a ≡ b
same_bool true true e = refl
same_bool true false e = absurd (cc)
same_bool false true e = absurd (cc)
same_bool false false e = refl

pub other_bool : (a b : Bool) → not (beq a b) ≡ true → a ≡ b → ⊥
other_bool true true e same = absurd (cc)
other_bool true false e same = absurd (cc)
other_bool false true e same = absurd (cc)
other_bool false false e same = absurd (cc)

-- ---- lines, and others behind them

pub all_append : (r : SoFar) (ss more : List Said) → all_said r (ss ++ more) ≡ all_said (all_said r ss) more
all_append r [] more = refl
all_append r (s ∷ ss) more = all_append (with_said r s) ss more

pub next_append : (r : SoFar) (ss more : List Said) → AreNext r ss → AreNext (all_said r ss) more → AreNext r (ss ++ more)
next_append r [] more next later = later
next_append r (s ∷ ss) more next later = (next.0, next_append (with_said r s) ss more next.1 later)

pub keys_leave : (r : SoFar) (ss : List Said) → AreKeys ss → all_said r ss ≡ r
keys_leave r [] are = refl
keys_leave r (Keyed key name v ∷ ss) are = keys_leave r ss are
keys_leave r (Committed by key script t v ∷ ss) are = absurd are
keys_leave r (Saved sum ∷ ss) are = absurd are

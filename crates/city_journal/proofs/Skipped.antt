-- A commit whose version isn't the next, among the lines that are left.
use Rattle.std.proofs.Common.{◌≡◌, ◌∙◌, ◌+◌, ◌⊎◌, inl, inr, ℕ, List, [], ◌∷◌, ◌++◌, None, Some, refl, sym, ap, arith, subst}
use Rattle.std.proofs.Common.{append_assoc, drop, length, map, take, Err, IsSomeAnd, MatchResult, Option, Result}
use Rattle.std.proofs.lemmas.List.{length-append}
use Rattle.memchr.specs.Find.{IsFirstByte, is_byte}
use Rattle.city_journal.specs.Lines.{IsLine, lines_text}
use Rattle.city_journal.specs.Reads.{AreNext, IsNext, SoFar, all_said, with_said}
use Rattle.city_journal.specs.Said.{Fits, Said, SaysSame, said_text}
use Rattle.city_journal.specs.Said.Said.{Committed}
use Rattle.city_journal.specs.Skipped.{IsSkipped, IsSkippedLine, TellsSkipped}
use Rattle.city_journal.specs.declared.fault.JournalFault.{JournalFault}
use Rattle.city_journal.specs.declared.fault.JournalFault.TheVariants.{BadVersion}
use Rattle.city_journal.specs.declared.line.Line.{Line}
use Rattle.city_journal.proofs.JournalRead.{has_newline, line_is, rest_is}
use Rattle.city_journal.proofs.Lines.{drop_twice}

-- it is the first of them
pub record SkipsHere (r : SoFar) (bytes : List ℕ) : Type 0 where
  pub line : List ℕ
  pub rest : List ℕ
  pub is_line : IsLine line
  pub skips : IsSkippedLine r.version line
  pub text : bytes ≡ line ++ 10 ∷ rest

-- it stands behind the first
pub record SkipsLater (r : SoFar) (bytes : List ℕ) : Type 0 where
  pub s : Said
  pub rest : List ℕ
  pub next : IsNext r.version s
  pub text : bytes ≡ said_text s ++ 10 ∷ rest
  pub later : IsSkipped (with_said r s) rest

split : (r : SoFar) (bytes line rest : List ℕ) (ss : List Said) → AreNext r ss → IsLine line
    → IsSkippedLine (all_said r ss).version line → bytes ≡ lines_text (map said_text ss) ++ (line ++ 10 ∷ rest)
    → SkipsHere r bytes ⊎ SkipsLater r bytes
split r bytes line rest [] next is skips text =
    inl (record { line = line; rest = rest; is_line = is; skips = skips; text = text })
split r bytes line rest (s ∷ ss) next is skips text = inr (record {
  s = s;
  rest = lines_text (map said_text ss) ++ (line ++ 10 ∷ rest);
  next = next.0;
  text = text ∙ append_assoc (said_text s ++ 10 ∷ []) (lines_text (map said_text ss)) (line ++ 10 ∷ rest)
      ∙ append_assoc (said_text s) (10 ∷ []) (lines_text (map said_text ss) ++ (line ++ 10 ∷ rest));
  later = record { ss = ss; line = line; rest = rest; next = next.1; is_line = is; skips = skips; text = refl };
})

here_or_later : (r : SoFar) (bytes : List ℕ) → IsSkipped r bytes → SkipsHere r bytes ⊎ SkipsLater r bytes
here_or_later r bytes h = split r bytes h.line h.rest h.ss h.next h.is_line h.skips h.text

without_by : (r : SoFar) (bytes : List ℕ) → IsFirstByte (is_byte 10) bytes None
    → SkipsHere r bytes ⊎ SkipsLater r bytes → ⊥
without_by r bytes byte (inl h) = has_newline h.line h.rest h.is_line (rw h.text at byte)
without_by r bytes byte (inr h) = has_newline (said_text h.s) h.rest h.next.is_line (rw h.text at byte)

pub skips_with_newline : (r : SoFar) (bytes : List ℕ) → IsFirstByte (is_byte 10) bytes None → IsSkipped r bytes → ⊥
skips_with_newline r bytes byte h = without_by r bytes byte (here_or_later r bytes h)

some_by : (r : SoFar) → SkipsHere r [] ⊎ SkipsLater r [] → ⊥
some_by r (inl h) = omega (arith, ap length h.text, length-append h.line (10 ∷ h.rest))
some_by r (inr h) = omega (arith, ap length h.text, length-append (said_text h.s) (10 ∷ h.rest))

pub skips_something : (r : SoFar) → IsSkipped r [] → ⊥
skips_something r h = some_by r (here_or_later r [] h)

module _ (r : SoFar) (bytes : List ℕ) (k : ℕ) (byte : IsFirstByte (is_byte 10) bytes (Some k)) where
  one_by : (P : Type 0) → (IsSkippedLine r.version (take k bytes) → P)
      → ((s : Said) → IsNext r.version s → take k bytes ≡ said_text s → IsSkipped (with_said r s) (drop (k + 1) bytes) → P)
      → SkipsHere r bytes ⊎ SkipsLater r bytes → P
  one_by P here later (inl h) =
      here (subst (IsSkippedLine r.version) (sym (line_is bytes h.line h.rest k h.is_line h.text byte)) h.skips)
  one_by P here later (inr h) =
      later h.s h.next (line_is bytes (said_text h.s) h.rest k h.next.is_line h.text byte)
      (subst (IsSkipped (with_said r h.s)) (sym (rest_is bytes (said_text h.s) h.rest k h.next.is_line h.text byte)) h.later)

  -- what is so of the first line, whichever it is
  pub skips_by : (P : Type 0) → (IsSkippedLine r.version (take k bytes) → P)
      → ((s : Said) → IsNext r.version s → take k bytes ≡ said_text s → IsSkipped (with_said r s) (drop (k + 1) bytes) → P)
      → IsSkipped r bytes → P
  skips_by P here later h = one_by P here later (here_or_later r bytes h)

pub skips_next : (r new : SoFar) (s : Said) (bytes : List ℕ) (at k : ℕ) → new ≡ with_said r s
    → IsSkipped (with_said r s) (drop (k + 1) (drop at bytes)) → IsSkipped new (drop (at + k + 1) bytes)
skips_next r new s bytes at k is h =
    let n : at + (k + 1) ≡ at + k + 1 = omega arith in
    rw (is, sym n, sym (drop_twice (k + 1) at bytes)) h

-- ---- one line

pub said_there : (before : ℕ) (l : List ℕ) (o : Option Line) (x : Line)
    → ((s : Said) → Fits s → l ≡ said_text s → IsSomeAnd o (λ y. SaysSame y s)) → o ≡ Some x
    → (h : IsSkippedLine before l) → SaysSame x (Committed h.by h.key h.script h.time h.version)
said_there before l o x reads is h = rw is at (reads (Committed h.by h.key h.script h.time h.version) h.fits h.text)

pub none_there : (before : ℕ) (l : List ℕ) (o : Option Line)
    → ((s : Said) → Fits s → l ≡ said_text s → IsSomeAnd o (λ y. SaysSame y s)) → o ≡ None
    → IsSkippedLine before l → ⊥
none_there before l o reads is h = rw is at (reads (Committed h.by h.key h.script h.time h.version) h.fits h.text)

pub skip_told : {T : Type 0} (r : Result T JournalFault) (n : ℕ) → r ≡ Err (BadVersion n)
    → MatchResult r (λ _. ⊥) TellsSkipped
skip_told r n e = rw e (inl (n, refl))

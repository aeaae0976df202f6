-- What is read of a line, by what the readers of each kind say.
use Rattle.std.proofs.Common.{◌≡◌, ◌<◌, ◌^◌, ◌++◌, ℕ, List, Option, None, Some, IsSomeAnd, ap, arith, codes, get_or}
use Rattle.std.proofs.Common.{option_copied, option_map}
use Rattle.json.specs.Print.{quoted}
use Rattle.city_journal.specs.LineTexts.{Begins, commit_text, key_text, saved_text}
use Rattle.city_journal.specs.Said.{Fits, Said, SaysSame, said_text}
use Rattle.city_journal.specs.Said.Said.{Committed, Keyed, Saved}
use Rattle.city_journal.specs.Sums.{IsSum}
use Rattle.city_journal.specs.declared.line.CommitLine.{CommitLine}
use Rattle.city_journal.specs.declared.line.KeyLine.{KeyLine}
use Rattle.city_journal.specs.declared.line.Line.TheVariants as line

differ : (l : List ℕ) (i a b : ℕ) → a < b → get_or l i 0 ≡ a → get_or l i 0 ≡ b → ⊥
differ l i a b lt one other = omega (arith, lt, one, other)

-- what the reader of commits says
abbrev pub ReadsCommits : List ℕ → Option CommitLine → Type 0
ReadsCommits l o = (by : List ℕ) (key : Option (List ℕ)) (script : List ℕ) (time version : ℕ) → time < 2 ^ 64
    → version < 2 ^ 64 → l ≡ commit_text by key script time version
    → IsSomeAnd o (λ c. (option_copied c.key ≡ option_map quoted key) × (c.script.now ≡ script) × (c.version ≡ version))

no_commit : (l : List ℕ) (o : Option CommitLine) → ReadsCommits l o → o ≡ None → (by : List ℕ) (key : Option (List ℕ))
    (script : List ℕ) (time version : ℕ) → time < 2 ^ 64 → version < 2 ^ 64 → l ≡ commit_text by key script time version → ⊥
no_commit l o reads is by key script t v ft fv e = rw is at (reads by key script t v ft fv e)

pub commit_said : (l : List ℕ) (o : Option CommitLine) (c : CommitLine) → ReadsCommits l o → o ≡ Some c
    → Begins (codes "{\"by\":") l → (s : Said) → Fits s → l ≡ said_text s → SaysSame (line.Commit c) s
commit_said l o c reads is begins (Committed by key script t v) fits e = rw is at (reads by key script t v fits.0 fits.1 e)
commit_said l o c reads is begins (Keyed key name v) fits e =
    absurd (differ l 2 98 107 (omega arith) (ap (λ x. get_or x 2 0) begins.1) (ap (λ x. get_or x 2 0) e))
commit_said l o c reads is begins (Saved sum) fits e =
    absurd (differ l 2 98 115 (omega arith) (ap (λ x. get_or x 2 0) begins.1) (ap (λ x. get_or x 2 0) e))

pub key_said : (l : List ℕ) (o : Option CommitLine) (k : KeyLine) (rest : List ℕ) → ReadsCommits l o → o ≡ None
    → l ≡ codes "{\"key\":" ++ rest
    → ((key name : List ℕ) (version : ℕ) → version < 2 ^ 64 → l ≡ key_text key name version
    → (k.key.now ≡ quoted key) × (k.name.now ≡ quoted name) × (k.version ≡ version))
    → (s : Said) → Fits s → l ≡ said_text s → SaysSame (line.Key k) s
key_said l o k rest reads is begins keyed (Committed by key script t v) fits e =
    absurd (no_commit l o reads is by key script t v fits.0 fits.1 e)
key_said l o k rest reads is begins keyed (Keyed key name v) fits e = keyed key name v fits e
key_said l o k rest reads is begins keyed (Saved sum) fits e =
    absurd (differ l 2 107 115 (omega arith) (ap (λ x. get_or x 2 0) begins) (ap (λ x. get_or x 2 0) e))

pub none_said : (l : List ℕ) (o : Option CommitLine) → ReadsCommits l o → o ≡ None
    → ((key name : List ℕ) (version : ℕ) → version < 2 ^ 64 → l ≡ key_text key name version → ⊥)
    → ((sum : List ℕ) → IsSum sum → l ≡ saved_text sum → ⊥) → (s : Said) → Fits s → l ≡ said_text s → ⊥
none_said l o reads is keyed saved (Committed by key script t v) fits e =
    no_commit l o reads is by key script t v fits.0 fits.1 e
none_said l o reads is keyed saved (Keyed key name v) fits e = keyed key name v fits e
none_said l o reads is keyed saved (Saved sum) fits e = saved sum fits e

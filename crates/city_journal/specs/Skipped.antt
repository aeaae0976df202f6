-- Lines with a commit whose version isn't the next.
use Rattle.std.specs.Prelude.{◌≡◌, ◌≢◌, ◌⊎◌, ◌+◌, ℕ, List, ◌∷◌, ◌++◌, Option, map}
use Rattle.city_journal.specs.LineTexts.{commit_text}
use Rattle.city_journal.specs.Lines.{IsLine, lines_text}
use Rattle.city_journal.specs.Reads.{AreNext, SoFar, all_said}
use Rattle.city_journal.specs.Said.{Fits, Said, said_text}
use Rattle.city_journal.specs.Said.Said.{Committed}
use Rattle.city_journal.specs.declared.fault.JournalFault.{JournalFault}
use Rattle.city_journal.specs.declared.fault.JournalFault.TheVariants.{BadVersion, OutOfMemory}

-- the line is a commit's, with another version than the one behind this
pub record IsSkippedLine (before : ℕ) (line : List ℕ) : Type 0 where
  pub by : List ℕ
  pub key : Option (List ℕ)
  pub script : List ℕ
  pub time : ℕ
  pub version : ℕ
  pub fits : Fits (Committed by key script time version)
  pub text : line ≡ commit_text by key script time version
  pub other : version ≢ before + 1

-- the bytes are lines that may come next, and behind them such a line and others
pub record IsSkipped (r : SoFar) (bytes : List ℕ) : Type 0 where
  pub ss : List Said
  pub line : List ℕ
  pub rest : List ℕ
  pub next : AreNext r ss
  pub is_line : IsLine line
  pub skips : IsSkippedLine (all_said r ss).version line
  pub text : bytes ≡ lines_text (map said_text ss) ++ (line ++ 10 ∷ rest)

-- that is told, unless memory is too short
abbrev pub TellsSkipped : JournalFault → Type 0
TellsSkipped f = ((n : ℕ) × (f ≡ BadVersion n)) ⊎ (f ≡ OutOfMemory)

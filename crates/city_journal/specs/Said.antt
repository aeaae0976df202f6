-- What the lines of a journal behind the first say, and what is read of one.
use Rattle.std.specs.Prelude.{◌≡◌, ◌^◌, ◌<◌, ℕ, List, Option, option_copied, option_map}
use Rattle.json.specs.Print.{quoted}
use Rattle.city_journal.specs.LineTexts.{commit_text, key_text, saved_text}
use Rattle.city_journal.specs.Sums.{IsSum}
use Rattle.city_journal.specs.declared.line.Line.{Line}
use Rattle.city_journal.specs.declared.line.Line.TheVariants as line

pub data Said : Type 0 where
  -- a commit before the journal began had this key
  Keyed : (key name : List ℕ) (version : ℕ) → Said
  -- this commit is made
  Committed : (by : List ℕ) (key : Option (List ℕ)) (script : List ℕ) (time version : ℕ) → Said
  -- the model with these bytes of its sum is about to be put into place
  Saved : (sum : List ℕ) → Said

abbrev pub said_text : Said → List ℕ
said_text (Keyed key name version) = key_text key name version
said_text (Committed by key script time version) = commit_text by key script time version
said_text (Saved sum) = saved_text sum

-- its numbers fit 64 bits, and its sum is one
abbrev pub Fits : Said → Type 0
Fits (Keyed key name version) = version < 2 ^ 64
Fits (Committed by key script time version) = (time < 2 ^ 64) × (version < 2 ^ 64)
Fits (Saved sum) = IsSum sum

-- what is read of a line is what it says
abbrev pub SaysSame : Line → Said → Type 0
SaysSame (line.Key k) (Keyed key name version) =
    (k.key.now ≡ quoted key) × (k.name.now ≡ quoted name) × (k.version ≡ version)
SaysSame (line.Commit c) (Committed by key script time version) =
    (option_copied c.key ≡ option_map quoted key) × (c.script.now ≡ script) × (c.version ≡ version)
SaysSame (line.Saved s) (Saved sum) = s.bytes ≡ sum
SaysSame _ _ = ⊥

-- What a restart reads of a journal that noted commits.
use Rattle.std.specs.Prelude.{◌≡◌, ◌+◌, ◌^◌, ◌<◌, ℕ, List, [], ◌∷◌, ◌++◌, Bool, length, map, take}
use Rattle.city_live.specs.Noting.{Noted}
use Rattle.city_journal.specs.Entries.{IsScriptOf}
use Rattle.city_journal.specs.Followed.{AreLinesOf}
use Rattle.city_journal.specs.LineTexts.{base_text}
use Rattle.city_journal.specs.Lines.{AreLines, whole_lines}
use Rattle.city_journal.specs.Reads.{AreKeys, AreNext, begun, commit_read}
use Rattle.city_journal.specs.Said.{Said, said_text}
use Rattle.city_journal.specs.Sums.{IsSum}
use Rattle.city_journal.specs.declared.read.ReadJournal.{ReadJournal}

-- the version of each commit is the next
abbrev pub CountUp : ℕ → List Noted → Type 0
CountUp v [] = Unit {0}
CountUp v (n ∷ ns) = (n.version ≡ v + 1) × CountUp n.version ns

-- the first lines of a journal over the model with this sum, at this version: then those of keys
abbrev pub opening_of : Bool → List ℕ → ℕ → List Said → List (List ℕ)
opening_of decimals sum version keys = base_text sum decimals version ∷ map said_text keys

pub record IsOpening (sum : List ℕ) (version : ℕ) (keys : List Said) : Type 0 where
  pub is_sum : IsSum sum
  pub fits : version < 2 ^ 64
  pub are_keys : AreKeys keys
  pub next : AreNext (begun sum version) keys

-- A crash left these bytes of a journal over the model with this sum, at this version: its opening, the lines of the
-- commits that may be told, and the first of those of more, so many.
pub record IsLeftOver (decimals : Bool) (sum : List ℕ) (version : ℕ) (told more : List Noted) (bytes : List ℕ) : Type 0 where
  pub keys : List Said
  pub opens : IsOpening sum version keys
  pub told_lines : List (List ℕ)
  pub more_lines : List (List ℕ)
  pub are_lines : AreLines (opening_of decimals sum version keys ++ (told_lines ++ more_lines))
  pub are_told : AreLinesOf decimals told_lines told
  pub are_more : AreLinesOf decimals more_lines more
  pub count_up : CountUp version (told ++ more)
  pub kept : ℕ
  pub left : whole_lines bytes ≡ take (length (opening_of decimals sum version keys ++ told_lines) + kept)
      (opening_of decimals sum version keys ++ (told_lines ++ more_lines))

-- these are the texts of the commits' scripts, each with its version, in their order
abbrev pub AreScriptsOf : Bool → List (List ℕ × ℕ) → List Noted → Type 0
AreScriptsOf decimals [] ns = ns ≡ []
AreScriptsOf decimals (c ∷ cs) ns = (n : Noted) × (rest : List Noted) × (name : List ℕ) × (ns ≡ n ∷ rest)
    × IsScriptOf decimals (name, n.commands) c.0 × (c.1 ≡ n.version) × AreScriptsOf decimals cs rest

-- The commits that were read are all that may be told, and the first of the others, so many: exactly those whose lines
-- were left.
pub record Restarts {decimals : Bool} {sum : List ℕ} {version : ℕ} {told more : List Noted} {bytes : List ℕ}
    (l : IsLeftOver decimals sum version told more bytes) (j : ReadJournal) : Type 0 where
  pub count : ℕ
  pub follow : AreLinesOf decimals (take l.kept l.more_lines) (take count more)
  pub commits : AreScriptsOf decimals (map commit_read j.commits.items) (told ++ take count more)

-- What is read of a journal's lines, one after another.
use Rattle.std.specs.Prelude.{◌≡◌, ◌+◌, ◌^◌, ◌<◌, ℕ, List, [], ◌∷◌, ◌++◌, Bool, map, length, drop, nat_lt}
use Rattle.std.specs.Str.{IsUtf8}
use Rattle.city_journal.specs.declared.read.Commit.{Commit}
use Rattle.city_journal.specs.declared.read.ReadJournal.{ReadJournal}
use Rattle.city_journal.specs.declared.reading.Place.{Place}
use Rattle.city_journal.specs.declared.reading.Reading.{Reading}
use Rattle.city_journal.specs.LineTexts.{base_text}
use Rattle.city_journal.specs.Lines.{IsLine, lines_text}
use Rattle.city_journal.specs.Names.{KeyFits}
use Rattle.city_journal.specs.Places.{place_read}
use Rattle.city_journal.specs.Said.{Fits, Said, said_text}
use Rattle.city_journal.specs.Said.Said.{Committed, Keyed, Saved}
use Rattle.city_journal.specs.Sums.{IsSum}

-- The commits, each by the text of its script and its version; the places where the model is known, each by its sum and
-- how many commits stand before; and the version behind the last line.
pub record SoFar : Type 0 where
  pub commits : List (List ℕ × ℕ)
  pub places : List (List ℕ × ℕ)
  pub version : ℕ

-- behind the first line
abbrev pub begun : List ℕ → ℕ → SoFar
begun sum version = record { commits = []; places = (sum, 0) ∷ []; version = version }

-- and a commit
abbrev pub with_commit : SoFar → List ℕ → ℕ → SoFar
with_commit r script version =
    record { commits = r.commits ++ (script, version) ∷ []; places = r.places; version = version }

-- and a line
abbrev pub with_said : SoFar → Said → SoFar
with_said r (Keyed key name version) = r
with_said r (Committed by key script time version) = with_commit r script version
with_said r (Saved sum) =
    record { commits = r.commits; places = r.places ++ (sum, length r.commits) ∷ []; version = r.version }

abbrev pub all_said : SoFar → List Said → SoFar
all_said r [] = r
all_said r (s ∷ ss) = all_said (with_said r s) ss

-- its texts are texts, and a commit's version is the next
abbrev pub Follows : ℕ → Said → Type 0
Follows v (Keyed key name version) = IsUtf8 key × IsUtf8 name
Follows v (Committed by key script time version) = KeyFits key script × (version ≡ v + 1)
Follows v (Saved sum) = Unit {0}

-- it may come behind a line with this version
pub record IsNext (version : ℕ) (s : Said) : Type 0 where
  pub fits : Fits s
  pub is_line : IsLine (said_text s)
  pub follows : Follows version s

abbrev pub AreNext : SoFar → List Said → Type 0
AreNext r [] = Unit {0}
AreNext r (s ∷ ss) = IsNext r.version s × AreNext (with_said r s) ss

-- the lines are those of keys
abbrev pub AreKeys : List Said → Type 0
AreKeys [] = Unit {0}
AreKeys (Keyed key name version ∷ ss) = AreKeys ss
AreKeys (Committed by key script time version ∷ ss) = ⊥
AreKeys (Saved sum ∷ ss) = ⊥

-- ---- what contracts see of it

abbrev pub commit_read : Commit → List ℕ × ℕ
commit_read c = (c.script.now, c.version)

abbrev pub so_far : List Commit → List Place → ℕ → SoFar
so_far commits places version = record {
  commits = map commit_read commits;
  places = map place_read places;
  version = version;
}

abbrev pub reading_so_far : Reading → SoFar
reading_so_far r = so_far r.commits.items r.places.items r.version

-- A journal says this: it is over the model with this sum at this version, and has these lines behind the first. Behind
-- the last of them there may be a part of another.
pub record IsJournal (decimals : Bool) (sum : List ℕ) (version : ℕ) (ss : List Said) (torn bytes : List ℕ) : Type 0 where
  pub is_sum : IsSum sum
  pub fits : version < 2 ^ 64
  pub first : IsLine (base_text sum decimals version)
  pub next : AreNext (begun sum version) ss
  pub part : IsLine torn
  pub text : bytes ≡ lines_text (base_text sum decimals version ∷ map said_text ss) ++ torn

-- that is what was read, and nothing but the part of a line was dropped
pub record IsReadAs (r : SoFar) (torn bytes : List ℕ) (j : ReadJournal) : Type 0 where
  pub read : so_far j.commits.items j.places.items j.version ≡ r
  pub dropped : drop j.whole bytes ≡ torn
  pub told : j.dropped ≡ nat_lt 0 (length torn)

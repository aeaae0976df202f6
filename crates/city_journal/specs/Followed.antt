-- A journal whose lines are those of the commits that it has noted.
use Rattle.std.specs.Prelude.{◌≡◌, ◌<◌, ◌^◌, ◌⊎◌, ℕ, List, [], ◌∷◌, ◌++◌, Bool, Option, length}
use Rattle.city_live.specs.Noting.{Noted}
use Rattle.city_journal.specs.Entries.{IsScriptOf}
use Rattle.city_journal.specs.Kept.{Holds}
use Rattle.city_journal.specs.LineTexts.{commit_text, saved_text}
use Rattle.city_journal.specs.Names.{KeyFits}
use Rattle.city_journal.specs.Sums.{IsSum}

-- a line says that this commit is made: its hand, maybe a key, a script of its commands, some time, and its version
pub record IsLineOf (decimals : Bool) (n : Noted) (line : List ℕ) : Type 0 where
  pub name : List ℕ
  pub key : Option (List ℕ)
  pub script : List ℕ
  pub time : ℕ
  pub is_script : IsScriptOf decimals (name, n.commands) script
  pub named : KeyFits key script
  pub fits : (time < 2 ^ 64) × (n.version < 2 ^ 64)
  pub is_line : line ≡ commit_text n.by key script time n.version

-- a line says that a model is about to be put into place
abbrev pub IsSavedLine : List ℕ → Type 0
IsSavedLine line = (sum : List ℕ) × IsSum sum × (line ≡ saved_text sum)

-- the lines are those of these commits, in their order, and between them such as say that a model is put into place
abbrev pub AreLinesOf : Bool → List (List ℕ) → List Noted → Type 0
AreLinesOf decimals [] ns = ns ≡ []
AreLinesOf decimals (l ∷ ls) ns = (IsSavedLine l × AreLinesOf decimals ls ns)
    ⊎ ((n : Noted) × (rest : List Noted) × (ns ≡ n ∷ rest) × IsLineOf decimals n l × AreLinesOf decimals ls rest)

-- The file has these opening lines, and behind them those of these commits: of some that may be told, and of more.
-- Whatever a crash leaves has all lines of the first, and the first lines of the others.
pub record HoldsCommits {F : Type 0} (seen : F → Option (List ℕ)) (may_leave : F → List ℕ → Type 0) (decimals : Bool)
    (file : F) (opening : List (List ℕ)) (told more : List Noted) : Type 0 where
  pub told_lines : List (List ℕ)
  pub more_lines : List (List ℕ)
  pub are_told : AreLinesOf decimals told_lines told
  pub are_more : AreLinesOf decimals more_lines more
  pub holds : Holds seen may_leave file (opening ++ (told_lines ++ more_lines)) (length (opening ++ told_lines))

-- the file has the lines of these commits too, which nobody was told of
abbrev pub AddsCommits : {F : Type 0} → Bool → List Noted → (F → Option (List ℕ)) → (F → List ℕ → Type 0) → F → F → Type 0
AddsCommits decimals added seen may_leave old new = (opening : List (List ℕ)) (told more : List Noted)
    → HoldsCommits seen may_leave decimals old opening told more
    → HoldsCommits seen may_leave decimals new opening told (more ++ added)

-- the file has the lines of the same commits, and all of these may be told
abbrev pub TellsCommits : {F : Type 0} → Bool → (F → Option (List ℕ)) → (F → List ℕ → Type 0) → F → F → Type 0
TellsCommits decimals seen may_leave old new = (opening : List (List ℕ)) (told more : List Noted)
    → HoldsCommits seen may_leave decimals old opening told more
    → HoldsCommits seen may_leave decimals new opening (told ++ more) []

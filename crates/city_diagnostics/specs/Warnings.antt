-- The lines of warnings.
use Rattle.std.specs.Prelude.{ℕ, List, codes}
use Rattle.serde_json.specs.Data.{Data}
use Rattle.city_diagnostics.specs.Lines.{AreLinesOf, HasText, HasWords}

-- a warning of this name about scripts, with a message and a cure
pub record WarnsOf (name : List ℕ) (d : Data) : Type 0 where
  pub text : HasText (codes "text") (codes "scripts") d
  pub warning : HasText (codes "warning") name d
  pub message : HasWords (codes "message") d
  pub cure : HasWords (codes "cure") d

-- a warning of some name
abbrev pub Warns : Data → Type 0
Warns d = (name : List ℕ) × WarnsOf name d

-- a line for each of some warnings
abbrev pub AreWarnings : List ℕ → Type 0
AreWarnings lines = (names : List (List ℕ)) × AreLinesOf WarnsOf names lines

-- The steps that a run takes on files, each by the path that it is taken for.
use Rattle.std.specs.Prelude.{◌≡◌, ⊤, ℕ, Bool, true, false, List, [], ◌∷◌, ◌++◌, Option, None, Some}

-- A step that was done. One that was refused isn't one.
pub data Step : Type 0 where
  -- the file is this run's alone, until it is unlocked
  Locked : List ℕ → Step
  -- a text was read
  Read : List ℕ → Step
  -- a new, empty file was made for the file
  Created : List ℕ → Step
  -- all that was written to the new file has reached the device
  Synced : Step
  -- the file was looked at again, and is what was read
  LookedAt : List ℕ → Step
  -- the new file has the file's name
  Renamed : List ℕ → Step
  -- the names in the file's folder have reached the device
  FolderSynced : List ℕ → Step
  -- the new file was given up
  GivenUp : Step
  Unlocked : Step

-- if the steps taken so far are known, these were taken then
abbrev pub Takes : Option (List Step) → Option (List Step) → List Step → Type 0
Takes None after steps = ⊤
Takes (Some before) after steps = after ≡ Some (before ++ steps)

-- a step is taken if it is done
abbrev pub steps_if : Bool → Step → List Step
steps_if true step = step ∷ []
steps_if false step = []

-- a file is replaced by these steps
abbrev pub replacing : List ℕ → List Step
replacing path = Created path ∷ Synced ∷ LookedAt path ∷ Renamed path ∷ FolderSynced path ∷ []

-- the steps of a delivery: the model may go to a file, unless it goes nowhere
abbrev pub delivering : Option (List ℕ) → Bool → List Step
delivering (Some path) false = replacing path
delivering file nowhere = []

-- the output file is locked before all else, and unlocked at the end
abbrev pub under_lock : Option (List ℕ) → List Step → List Step
under_lock None steps = steps
under_lock (Some path) steps = Locked path ∷ steps ++ Unlocked ∷ []

-- Commits noted in a journal, run again.
use Rattle.std.specs.Prelude.{◌≡◌, ◌⊎◌, ◌++◌, ℕ, List, [], ◌∷◌, Option, None, Some, true, is_some, option_map}
use Rattle.city_model.specs.declared.command.Command.{Command}
use Rattle.city_model.specs.declared.end.Outcome.{Outcome}
use Rattle.city_model.specs.CityMap.{CityMap}
use Rattle.city_model.specs.Runs.{map_left}
use Rattle.city_live.specs.Noting.{Noted}
use Rattle.city_live.specs.Works.{Working, commands_noted}

-- the map after these commits, each run as a whole, one after another
abbrev pub replayed : CityMap → List Noted → CityMap
replayed m [] = m
replayed m (n ∷ ns) = replayed (map_left m n.commands Outcome.Committed) ns

-- A journal that contracts see has noted these meanwhile, and they lead from the one map to the other.
pub record Notes (before after : Option (List Noted)) (m n : CityMap) : Type 0 where
  pub more : List Noted
  pub noted : after ≡ option_map (λ l. l ++ more) before
  pub leads : is_some before ≡ true → n ≡ replayed m more

-- One more is noted, with these commands.
pub record NotesCommands (commands : Option (List Command)) (before after : Option (List Noted)) : Type 0 where
  pub more : List Noted
  pub noted : after ≡ option_map (λ l. l ++ more) before
  pub one : is_some before ≡ true → (n : Noted) × (more ≡ n ∷ []) × (commands ≡ Some n.commands)

-- the work is noted, if there is one
abbrev pub NotesWork : Option Working → Option (List Noted) → Option (List Noted) → Type 0
NotesWork None before after = Unit {0}
NotesWork (Some w) before after = NotesCommands (commands_noted w) before after

-- so is a commit, unless the version stays
abbrev pub NotesCommit : ℕ → ℕ → Option Working → Option (List Noted) → Option (List Noted) → Type 0
NotesCommit version next w before after = ((next ≡ version) × (after ≡ before)) ⊎ NotesWork w before after

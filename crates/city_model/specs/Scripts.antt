-- Scripts among the lists of commands.
use Rattle.std.specs.Prelude.{◌≡◌, ℕ, List, [], ◌∷◌, Bool, true, false, Some, slice_get, if◌then◌else◌}
use Rattle.city_model.specs.declared.command.Command.{Command}
use Rattle.city_model.specs.declared.command.Command.TheVariants.{Mark, Back, Commit, Abort}

abbrev pub is_end : Command → Bool
is_end Commit = true
is_end Abort = true
is_end command = false

-- the command is about marks
abbrev pub is_mark : Command → Bool
is_mark (Mark name) = true
is_mark (Back name) = true
is_mark command = false

abbrev pub is_empty_list : List Command → Bool
is_empty_list [] = true
is_empty_list (c ∷ cs) = false

-- exactly the last command ends the script
abbrev pub ends_once : List Command → Bool
ends_once [] = false
ends_once (c ∷ cs) = if is_end c then is_empty_list cs else ends_once cs

-- each of these names and lists of commands is a script
abbrev pub AreScripts : List (List ℕ × List Command) → Type 0
AreScripts scripts = (i : ℕ) (s : List ℕ × List Command) → slice_get scripts i ≡ Some s → ends_once s.1 ≡ true

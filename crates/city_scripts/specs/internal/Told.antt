-- Searches for faults in one script after another.
use Rattle.std.specs.Prelude.{◌+◌, ◌++◌, ℕ, List, [], ◌∷◌, Bool, Option, Some, None, option_map, option_to_list}
use Rattle.std.specs.Prelude.{if◌then◌else◌, flat_map}
use Rattle.serde_json.specs.Data.{Data}
use Rattle.city_scripts.specs.declared.fault.ScriptFault.{ScriptFault}
use Rattle.city_scripts.specs.declared.fault.ScriptFault.TheVariants.{TooMany, BadCommand, BadVertex}
use Rattle.city_scripts.specs.declared.numbered.NumberedForm.{NumberedForm}
use Rattle.city_scripts.specs.AllFaults.{is_misplaced, are_too_many}
use Rattle.city_scripts.specs.CommandFaults.{is_bad_command}
use Rattle.city_scripts.specs.internal.Forms.{parts_view}
use Rattle.city_scripts.specs.internal.Searches.{bad_script}
use Rattle.city_tokens.specs.script.Scripts.{ScriptParts, parts_of, vertex_count}

-- the faults found at each item, in order; the items are numbered from n on
abbrev pub told : {A F : Type 0} → (ℕ → A → List F) → ℕ → List A → List F
told find n [] = []
told find n (x ∷ xs) = find n x ++ told find (n + 1) xs

-- ---- items

abbrev pub bad_script_at : ℕ → Data → List ScriptFault
bad_script_at n d = option_to_list (bad_script n d)

-- the items without the form of a script
abbrev pub bad_scripts : ℕ → List Data → List ScriptFault
bad_scripts n ds = told bad_script_at n ds

abbrev pub numbered_at : ℕ → Data → List (ℕ × ScriptParts)
numbered_at n d = option_to_list (option_map (λ p. (n, p)) (parts_of d))

-- the parts of the others, each with the number of its item
abbrev pub numbered : ℕ → List Data → List (ℕ × ScriptParts)
numbered n ds = told numbered_at n ds

abbrev pub numbered_view : NumberedForm → ℕ × ScriptParts
numbered_view f = (f.number, parts_view f.form)

abbrev pub too_many : List Data → List ScriptFault
too_many ds = if are_too_many ds then TooMany ∷ [] else []

-- ---- commands

-- a fault of one command: it is given the number of the script's vertices, the script, the command, and its tree
abbrev pub Finder : Type 0
Finder = ℕ → ℕ → ℕ → Data → Option ScriptFault

abbrev pub only_where : Bool → ScriptFault → Option ScriptFault
only_where b f = if b then Some f else None

abbrev pub bad_command : Finder
bad_command vertices n i d = only_where (is_bad_command d) (BadCommand n i)

abbrev pub bad_vertex : Finder
bad_vertex vertices n i d = only_where (is_misplaced vertices d) (BadVertex n i)

abbrev pub command_at : Finder → ℕ → ScriptParts → ℕ → Data → List ScriptFault
command_at find n p i d = option_to_list (find (vertex_count p.vertices) n i d)

-- the faults found in the commands of a script
abbrev pub told_in : Finder → ℕ → ScriptParts → List ScriptFault
told_in find n p = told (command_at find n p) 0 p.commands

-- and of all of them
abbrev pub told_each : Finder → List (ℕ × ScriptParts) → List ScriptFault
told_each find ps = flat_map (λ p. told_in find p.0 p.1) ps

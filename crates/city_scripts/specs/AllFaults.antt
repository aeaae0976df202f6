-- All faults of a text of scripts, each at its script and its command, and their order.
use Rattle.std.specs.Prelude.{◌≡◌, ◌⊎◌, ◌<◌, ◌&&◌, ◌||◌, not, ℕ, List, Bool, true, false, Option, Some, None}
use Rattle.std.specs.Prelude.{nat_lt, length, slice_get}
use Rattle.std.specs.List.{list_any}
use Rattle.serde_json.specs.Data.{Data}
use Rattle.city_members.specs.Integral.{is_integral}
use Rattle.city_scripts.specs.declared.fault.ScriptFault.{ScriptFault}
use Rattle.city_scripts.specs.declared.fault.ScriptFault.TheVariants.{OutOfMemory, TooLong, NotJson, NotWhole}
use Rattle.city_scripts.specs.declared.fault.ScriptFault.TheVariants.{NotScripts, BadScript, TooMany, BadCommand}
use Rattle.city_scripts.specs.declared.fault.ScriptFault.TheVariants.{BadVertex}
use Rattle.city_doc.specs.FaultLists.{AreAll}
use Rattle.city_scripts.specs.CommandFaults.{is_bad_command, names_bad_vertex}
use Rattle.city_scripts.specs.Faults.{IsBadScript, ScriptTextFault}
use Rattle.city_scripts.specs.Faults as places
use Rattle.city_tokens.specs.script.Scripts.{ScriptParts, parts_of, vertex_count, max_scripts, max_commands}
use Rattle.city_tokens.specs.tree.Lists.{array_of}
use Rattle.city_tokens.specs.tree.Texts.{IsTooLong, IsNoJson, HasTree}

-- ---- when a fault stands

-- the parts are those of a script, and it has too many commands
abbrev pub is_overlong : Option ScriptParts → Bool
is_overlong None = false
is_overlong (Some p) = nat_lt max_commands (length p.commands)

-- there are too many items, or too many commands in an item with the form of a script
abbrev pub are_too_many : List Data → Bool
are_too_many ds = nat_lt max_scripts (length ds) || list_any (λ d. is_overlong (parts_of d)) ds

-- item n has the form of a script, and its command i has it; the test is given the number of the script's vertices
abbrev pub HasAt : (ℕ → Data → Bool) → List Data → ℕ → ℕ → Type 0
HasAt test ds n i =
    (s : Data) × (p : ScriptParts) × (d : Data) × (slice_get ds n ≡ Some s) × (parts_of s ≡ Some p)
    × (slice_get p.commands i ≡ Some d) × (test (vertex_count p.vertices) d ≡ true)

-- the command isn't bad, and a position in it is negative, or isn't less than the count
abbrev pub is_misplaced : ℕ → Data → Bool
is_misplaced count d = not (is_bad_command d) && names_bad_vertex count d

-- the item or the command of the fault has it; too many scripts or commands are a fault of all items
abbrev pub StandsAt : List Data → ScriptFault → Type 0
StandsAt ds OutOfMemory = ⊥
StandsAt ds TooLong = ⊥
StandsAt ds NotJson = ⊥
StandsAt ds NotWhole = ⊥
StandsAt ds NotScripts = ⊥
StandsAt ds (BadScript n) = IsBadScript ds n
StandsAt ds TooMany = are_too_many ds ≡ true
StandsAt ds (BadCommand n i) = HasAt (λ count d. is_bad_command d) ds n i
StandsAt ds (BadVertex n i) = HasAt is_misplaced ds n i

-- the fault is one of the tree: a number isn't whole; else it is no array; else a fault of an item
abbrev pub IsFaultOfTree : Data → ScriptFault → Type 0
IsFaultOfTree d NotWhole = is_integral d ≡ false
IsFaultOfTree d NotScripts = (is_integral d ≡ true) × (array_of d ≡ None)
IsFaultOfTree d f = (is_integral d ≡ true) × ((ds : List Data) × (array_of d ≡ Some ds) × StandsAt ds f)

-- the fault is one of the text
abbrev pub IsFaultOf : List ℕ → ScriptFault → Type 0
IsFaultOf text f =
    ((f ≡ TooLong) × IsTooLong text)
    ⊎ (((f ≡ NotJson) × IsNoJson text)
    ⊎ ((d : Data) × HasTree text d × IsFaultOfTree d f))

-- ---- their order

-- the number of a fault
abbrev pub rank_of : ScriptFault → ℕ
rank_of OutOfMemory = 0
rank_of TooLong = 1
rank_of NotJson = 2
rank_of NotWhole = 3
rank_of NotScripts = 4
rank_of (BadScript n) = 5
rank_of TooMany = 6
rank_of (BadCommand n i) = 7
rank_of (BadVertex n i) = 8

-- the script of a fault; the first if it names none
abbrev pub script_in : ScriptFault → ℕ
script_in (BadScript n) = n
script_in (BadCommand n i) = n
script_in (BadVertex n i) = n
script_in f = 0

-- the command of a fault; the first if it names none
abbrev pub command_in : ScriptFault → ℕ
command_in (BadCommand n i) = i
command_in (BadVertex n i) = i
command_in f = 0

-- the first has the lower number; or the same, and the lower script, or the same and the lower command
abbrev pub IsBefore : ScriptFault → ScriptFault → Type 0
IsBefore f g =
    (rank_of f < rank_of g)
    ⊎ ((rank_of f ≡ rank_of g) × places.IsBefore (script_in f) (command_in f) (script_in g) (command_in g))

-- ---- lists of them

-- all faults with the property, each once, in order
abbrev pub AreThose : (ScriptFault → Type 0) → List ScriptFault → Type 0
AreThose P faults = AreAll IsBefore P faults

-- all faults of the text, each once, in order
abbrev pub AreFaultsOf : List ℕ → List ScriptFault → Type 0
AreFaultsOf text faults = AreThose (IsFaultOf text) faults

-- ---- the texts that are read, given enough memory

-- the text has no fault but `OutOfMemory`
abbrev pub IsAccepted : List ℕ → Type 0
IsAccepted text = (f : ScriptFault) → ScriptTextFault text f → f ≡ OutOfMemory

-- The faults of a text of scripts, and the first of them.
use Rattle.std.specs.Prelude.{◌≡◌, ◌⊎◌, ◌<◌, ℕ, List, Bool, true, false, Some, None, slice_get}
use Rattle.serde_json.specs.Data.{Data}
use Rattle.city_members.specs.Integral.{is_integral}
use Rattle.city_scripts.specs.declared.fault.ScriptFault.{ScriptFault}
use Rattle.city_tokens.specs.tree.Texts.{IsTooLong, IsNoJson, HasTree, HasOtherNumber}
use Rattle.city_tokens.specs.script.Scripts.{ScriptParts, parts_of, are_too_many, vertex_count}
use Rattle.city_tokens.specs.tree.Lists.{array_of, all_read}
use Rattle.city_scripts.specs.CommandFaults.{is_bad_command, names_bad_vertex}

-- item n isn't a script
abbrev pub IsBadScript : List Data → ℕ → Type 0
IsBadScript ds n = (d : Data) × (slice_get ds n ≡ Some d) × (parts_of d ≡ None)

-- and no item before it is one that isn't
abbrev pub IsFirstBadScript : List Data → ℕ → Type 0
IsFirstBadScript ds n = IsBadScript ds n × ((k : ℕ) → k < n → IsBadScript ds k → ⊥)

-- command i of script n has it; the test is given the number of the script's vertices
abbrev pub HasAt : (ℕ → Data → Bool) → List ScriptParts → ℕ → ℕ → Type 0
HasAt test ps n i =
    (p : ScriptParts) × (d : Data) × (slice_get ps n ≡ Some p) × (slice_get p.commands i ≡ Some d)
    × (test (vertex_count p.vertices) d ≡ true)

-- command j of script k comes before command i of script n
abbrev pub IsBefore : ℕ → ℕ → ℕ → ℕ → Type 0
IsBefore k j n i = (k < n) ⊎ ((k ≡ n) × (j < i))

-- and no command before it has it
abbrev pub IsFirstAt : (ℕ → Data → Bool) → List ScriptParts → ℕ → ℕ → Type 0
IsFirstAt test ps n i = HasAt test ps n i × ((k j : ℕ) → IsBefore k j n i → HasAt test ps k j → ⊥)

-- command i of script n is refused
abbrev pub IsBadCommand : List ScriptParts → ℕ → ℕ → Type 0
IsBadCommand ps n i = HasAt (λ count d. is_bad_command d) ps n i

-- and no command before it is refused
abbrev pub IsFirstBadCommand : List ScriptParts → ℕ → ℕ → Type 0
IsFirstBadCommand ps n i = IsFirstAt (λ count d. is_bad_command d) ps n i

-- a position in command i of script n is negative, or not less than the number of the script's vertices, and none
-- in a command before it
abbrev pub IsFirstBadVertex : List ScriptParts → ℕ → ℕ → Type 0
IsFirstBadVertex ps n i = IsFirstAt names_bad_vertex ps n i

-- the first fault of scripts with these parts
abbrev pub PartsFault : List ScriptParts → ScriptFault → Type 0
PartsFault ps f =
    ((f ≡ ScriptFault.TooMany) × (are_too_many ps ≡ true))
    ⊎ (((n : ℕ) × (i : ℕ) × (f ≡ ScriptFault.BadCommand n i) × (are_too_many ps ≡ false)
    × IsFirstBadCommand ps n i)
    ⊎ ((n : ℕ) × (i : ℕ) × (f ≡ ScriptFault.BadVertex n i) × (are_too_many ps ≡ false)
    × ((k j : ℕ) → IsBadCommand ps k j → ⊥) × IsFirstBadVertex ps n i))

-- the first fault of an array of these items: one isn't a script; or all are, and a later fault stands
abbrev pub ItemsFault : List Data → ScriptFault → Type 0
ItemsFault ds f =
    ((n : ℕ) × (f ≡ ScriptFault.BadScript n) × IsFirstBadScript ds n)
    ⊎ ((ps : List ScriptParts) × (all_read parts_of ds ≡ Some ps) × PartsFault ps f)

-- the first fault of a tree of whole numbers
abbrev pub TreeFault : Data → ScriptFault → Type 0
TreeFault d f =
    ((f ≡ ScriptFault.NotScripts) × (array_of d ≡ None))
    ⊎ ((ds : List Data) × (array_of d ≡ Some ds) × ItemsFault ds f)

-- the first fault of a text; `OutOfMemory` may be answered for any
abbrev pub ScriptTextFault : List ℕ → ScriptFault → Type 0
ScriptTextFault text f =
    (f ≡ ScriptFault.OutOfMemory)
    ⊎ (((f ≡ ScriptFault.TooLong) × IsTooLong text)
    ⊎ (((f ≡ ScriptFault.NotJson) × IsNoJson text)
    ⊎ (((f ≡ ScriptFault.NotWhole) × HasOtherNumber text)
    ⊎ ((d : Data) × HasTree text d × (is_integral d ≡ true) × TreeFault d f))))

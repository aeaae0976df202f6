-- The members of a script, as read.
use Rattle.std.specs.Prelude.{◌≡◌, ℕ, List, Option, Some, None, codes}
use Rattle.serde_json.specs.Data.{Data, Members, no_members, put}
use Rattle.city_model.specs.Runs.{Scripted}
use Rattle.city_tokens.specs.declared.script.ScriptParts.{ScriptParts}
use Rattle.city_tokens.specs.internal.ScriptItems.{script_of_item}
use Rattle.city_tokens.specs.internal.Commands.{IsCommand}
use Rattle.city_tokens.specs.internal.Positions.{IsVertex}
use Rattle.city_tokens.specs.internal.Standing.{IsArrayOf, IsListSlot, IsString}

abbrev pub IsScript : Scripted → Data → Type 0
IsScript s d = script_of_item d ≡ Some s

-- the value read of a member; both are there, or neither
abbrev pub IsPart : {A : Type 0} → (A → Data → Type 0) → Option A → Option Data → Type 0
IsPart R None None = Unit {0}
IsPart R (Some x) (Some d) = R x d
IsPart R _ _ = ⊥

-- the members with one more, if it is there
abbrev pub with_part : List ℕ → Option Data → Members → Members
with_part name None ms = ms
with_part name (Some d) ms = put name d ms

-- the members of a script
abbrev pub script_members : Option Data → Option Data → Option Data → Members
script_members commands name vertices =
    with_part (codes "commands") commands
    (with_part (codes "name") name (with_part (codes "vertices") vertices no_members))

abbrev pub IsScriptSoFar : ScriptParts → Members → Members → Type 0
IsScriptSoFar parts found kept =
    (commands : Option Data) × (name : Option Data) × (vertices : Option Data)
    × (found ≡ script_members commands name vertices)
    × IsPart (IsArrayOf IsCommand) parts.commands commands
    × IsPart IsString parts.name name
    × IsListSlot IsVertex parts.vertices vertices

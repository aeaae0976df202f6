-- Readable scripts without a fault.
use Rattle.std.specs.Prelude.{◌≡◌, ℕ, List, false}
use Rattle.city_scripts.specs.CommandFaults.{names_bad_vertex}
use Rattle.city_scripts.specs.Faults.{HasAt, IsBadCommand}
use Rattle.city_tokens.specs.script.Scripts.{ScriptParts, are_too_many}

-- a position in command i of script n is negative, or not less than the number of the script's vertices
abbrev pub IsBadVertex : List ScriptParts → ℕ → ℕ → Type 0
IsBadVertex ps n i = HasAt names_bad_vertex ps n i

-- none of these faults stands
abbrev pub AreFaultlessParts : List ScriptParts → Type 0
AreFaultlessParts ps =
    (are_too_many ps ≡ false) × ((n i : ℕ) → IsBadCommand ps n i → ⊥) × ((n i : ℕ) → IsBadVertex ps n i → ⊥)

-- First things found in scripts.
use Rattle.std.specs.Prelude.{ℕ, ◌+◌, List, [], ◌∷◌, Bool, Option, Some, None, option_map, if◌then◌else◌}
use Rattle.std.specs.Option.{option_or}
use Rattle.serde_json.specs.Data.{Data}
use Rattle.city_scripts.specs.declared.fault.ScriptFault.{ScriptFault}
use Rattle.city_scripts.specs.declared.fault.ScriptFault.TheVariants.{BadScript}
use Rattle.city_tokens.specs.script.Scripts.{ScriptParts, parts_of, vertex_count}

-- the first thing found at an item; the items are numbered from n on
abbrev pub first_at : {A B : Type 0} → (ℕ → A → Option B) → ℕ → List A → Option B
first_at find n [] = None
first_at find n (x ∷ xs) = option_or (find n x) (first_at find (n + 1) xs)

-- ---- items with no form of a script

abbrev pub unless : {A B : Type 0} → Option A → B → Option B
unless (Some x) y = None
unless None y = Some y

abbrev pub bad_script : ℕ → Data → Option ScriptFault
bad_script n d = unless (parts_of d) (BadScript n)

-- ---- commands with a property

abbrev pub index_if : {A : Type 0} → (A → Bool) → ℕ → A → Option ℕ
index_if test i x = if test x then Some i else None

-- the first of a script's commands; the test is given the number of its vertices
abbrev pub first_in : (ℕ → Data → Bool) → ℕ → List Data → Option ℕ
first_in test vertices ds = first_at (index_if (test vertices)) 0 ds

abbrev pub index_in : (ℕ → Data → Bool) → ℕ → ScriptParts → Option (ℕ × ℕ)
index_in test n p = option_map (λ i. (n, i)) (first_in test (vertex_count p.vertices) p.commands)

-- the first script with such a command, and its first such command
abbrev pub first_command : (ℕ → Data → Bool) → List ScriptParts → Option (ℕ × ℕ)
first_command test ps = first_at (index_in test) 0 ps

-- Scripts whose numbers may be of any form.
use Rattle.std.specs.Prelude.{◌≡◌, ℕ, List, Bool, true, false, Some}
use Rattle.std.specs.List.{AllByRecursion}
use Rattle.json.specs.Json.{Json}
use Rattle.json.specs.Tree.{HasNumbers}
use Rattle.serde_json.specs.Read.{of_json}
use Rattle.city_decimals.specs.Encoded.{encoded}
use Rattle.city_live.specs.Noting.{Noted}
use Rattle.city_model.specs.Runs.{Scripted}
use Rattle.city_writer.specs.script.Canonical.{script_tree}

-- with decimals, the tree of the script is one that an encoded value is read as
abbrev pub IsOfEncoded : Bool → Scripted → Type 0
IsOfEncoded false s = Unit {0}
IsOfEncoded true s = (j : Json) × HasNumbers j × (of_json (encoded j) ≡ Some (script_tree s))

-- the same of commits, whatever the names of their scripts are
abbrev pub AreOfEncoded : Bool → List Noted → Type 0
AreOfEncoded decimals ns = AllByRecursion (λ n. (name : List ℕ) → IsOfEncoded decimals (name, n.commands)) ns

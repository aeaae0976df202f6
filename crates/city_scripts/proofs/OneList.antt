-- A text stands for one list of scripts.
use Rattle.city_scripts.proofs.Prelude.{◌≡◌, ℕ, List, Some, arith, Data, Scripted, IsText}
use Rattle.city_doc.proofs.OneValue.{one_tree}
use Rattle.city_tokens.specs.script.Scripts.{scripts_of}

pub one_list : (text : List ℕ) (a b : List Scripted) → (d : Data) × IsText text d × (scripts_of d ≡ Some a)
    → (d : Data) × IsText text d × (scripts_of d ≡ Some b) → a ≡ b
one_list text a b h k = let same = one_tree text h.0 k.0 h.1 k.1 in grind arith

-- A text stands for one value.
use Rattle.city_doc.proofs.Prelude.{◌≡◌, ℕ, List, arith, Data, CityValue, IsTextOfCity, IsText}

pub one_tree : (text : List ℕ) (d e : Data) → IsText text d → IsText text e → d ≡ e
one_tree text d e h k = grind arith

pub one_city : (text : List ℕ) (a b : CityValue) → IsTextOfCity text a → IsTextOfCity text b → a ≡ b
one_city text a b h k = let same = one_tree text h.0 k.0 h.1 k.1 in grind arith

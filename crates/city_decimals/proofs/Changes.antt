-- A changed text, as in the public contracts.
use Rattle.city_decimals.proofs.Prelude.{arith, ◌≡◌, ℕ, List, [], ◌++◌, IsUtf8, IsDecodedLine, IsChanged, Direction}
use Rattle.city_decimals.proofs.Prelude.{Decode}

pub changed_decoded : (limit : ℕ) (text out : List ℕ) → IsChanged limit Decode text out → IsDecodedLine text out
changed_decoded limit text out h = (limit, h.j, h.value, h.out_is)

-- the changed text after the old bytes of the buffer
abbrev pub IsBehind : ℕ → Direction → List ℕ → List ℕ → List ℕ → Type 0
IsBehind limit way text before items =
    (out : List ℕ) × IsChanged limit way text out × IsUtf8 out × (items ≡ before ++ out)

-- an empty buffer then holds the changed text alone
pub alone : (limit : ℕ) (way : Direction) (text before items : List ℕ) → before ≡ []
    → IsBehind limit way text before items
    → IsChanged limit way text items × IsUtf8 items
alone limit way text before items none h = grind arith

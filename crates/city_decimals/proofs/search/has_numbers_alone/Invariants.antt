use Rattle.city_decimals.proofs.Prelude.{◌≡◌, length}
use Rattle.city_decimals.specs.internal.Found.{Found, bytes_of, IsFound}
use Rattle.city_decimals.proofs.search.has_numbers_alone.Given as goal

-- what is found in the rest stands in the text
abbrev pub invariant-loop-at : goal.invariant-loop-at
invariant-loop-at l =
    (p : Found) → IsFound p → bytes_of p ≡ l.rest → (q : Found) × IsFound q × (bytes_of q ≡ l.text)

abbrev pub decreases-loop-at : goal.decreases-loop-at
decreases-loop-at l = length l.rest

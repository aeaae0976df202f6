-- Each step keeps the rule of a board.
use Rattle.city_board.proofs.Prelude.{arith, ◌≡◌, ℕ, true, [], ◌∷◌, refl, IsLater, known_from, IsFaithful, Known}
use Rattle.city_board.proofs.Prelude.{Version}
use mathlib.Core.Option.{some}
use lib.ListN.{get_elem?}
use Rattle.left_right.specs.Register.{Admits, Turns, TurnsAt, Forks, Merges}
use Rattle.atomic_table.proofs.Lists.{at_set, at_snoc}
use Rattle.city_board.specs.internal.BoardRule.{MeetsRule, Sees, newcomer}
use Rattle.city_board.proofs.LaterVersions.{no_older_itself, no_older_on}

newcomer_alone : (seat : ℕ) (k : Known) → get_elem? (newcomer ∷ []) seat ≡ some k → k.met ≡ true → ⊥
newcomer_alone seat k at met = grind arith

pub first_meets : (x : Version) → IsFaithful x → MeetsRule x (newcomer ∷ [])
first_meets x faithful = grind (arith, newcomer_alone)

-- a later version is published and so seen
pub publishes : (seat : ℕ) (k : Known) (x y : Version) → IsLater x y → TurnsAt MeetsRule seat k x y Sees
publishes seat k x y later each h at = (
  known_from y,
  (
    later.0,
    λ j u e met.
        grind (arith, at_set each seat j (known_from y) u e, no_older_itself y, no_older_on u x y, h.1 j u),
  ),
  (refl, later.0, (λ met. no_older_on k x y (h.1 seat k at met) later.1)),
)

-- the published version is looked at
pub looks : (seat : ℕ) (k : Known) → Turns MeetsRule seat k (λ x. x) Sees
looks seat k x each h at = publishes seat k x x (h.0, no_older_itself x) each h at

-- a newcomer gets a seat
pub admits : Admits MeetsRule newcomer
admits x each h = grind (arith, at_snoc)

-- one tells everything one knows
pub tells : (seat : ℕ) (k : Known) → Forks MeetsRule seat k k k
tells seat k x each h at = grind (arith, at_snoc, at_set)

-- another takes over what it is told
pub believes : (seat : ℕ) (k : Known) (other : ℕ) (w : Known) → Merges MeetsRule seat k other w w newcomer
believes seat k other w x each h at apart there = grind (arith, at_set)

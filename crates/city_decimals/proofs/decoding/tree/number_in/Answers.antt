use Rattle.city_decimals.proofs.Prelude.{rules, ◌≡◌, ◌≢◌, ℕ, List, [], ◌∷◌, length, None, refl, members_view, Value}
use Rattle.city_decimals.proofs.Prelude.{number_in}
use Rattle.std.specs.Borrow.{Bor}
use Rattle.city_decimals.proofs.decoding.tree.number_in.Goals as goal

other : {A : Type 0} (ms : List (Bor (List ℕ) × Value A)) → length ms ≢ 1 → None ≡ number_in (members_view ms)
other [] h = refl
other (m ∷ []) h = absurd (h refl)
other (m ∷ n ∷ ms) h = refl

pub returns-then-len-ne1-clause-value : goal.returns-then-len-ne1-clause-value
returns-then-len-ne1-clause-value c = search (rules, other)

-- The boundaries of a shape are nested as its bounds are.
use Rattle.city_writer.proofs.Prelude.{◌≡◌, ℕ, arith, Shape, Nested, nested}
use Rattle.city_model.specs.internal.BorrowedBounds.{Boundaries, Surfaces, Shells, Solids, boundaries_of}

abbrev pub nested_within : Boundaries → (n : ℕ) × Nested n
nested_within (Surfaces surfaces) = (3, surfaces)
nested_within (Shells shells) = (4, shells)
nested_within (Solids solids) = (5, solids)

pub nested_as : (shape : Shape) → nested shape ≡ nested_within (boundaries_of shape)
nested_as shape = grind arith

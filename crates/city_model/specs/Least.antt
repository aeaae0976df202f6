-- The least id, in byte order.
use Rattle.std.specs.Prelude.{◌≡◌, ℕ, List}
use Rattle.std.specs.declared.cmp.Ordering.TheVariants.{Less}
use Rattle.std.specs.Ordering.{nat_cmp}
use Rattle.std.specs.Cmp.Lexicographic.{slice_cmp}

-- it holds of the id, and of none below it
abbrev pub IsLeast : (List ℕ → Type 0) → List ℕ → Type 0
IsLeast P id = P id × ((q : List ℕ) → slice_cmp nat_cmp q id ≡ Less → P q → ⊥)

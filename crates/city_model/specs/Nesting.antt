-- Lists within lists of points, as the boundaries of shapes have them (CityJSON 2.0, section 3).
use Rattle.std.specs.Prelude.{ℕ, zero, suc, List, codes}
use Rattle.city_model.specs.declared.object.Point.{Point}
use Rattle.city_model.specs.declared.object.Shape.{Shape}
use Rattle.city_model.specs.declared.object.Shape.TheVariants.{MultiSurface, CompositeSurface, Solid, MultiSolid}
use Rattle.city_model.specs.declared.object.Shape.TheVariants.{CompositeSolid}

-- points within so many lists: a ring has 1, a surface 2, a shell 3, a solid 4
abbrev pub Nested : ℕ → Type 0
Nested zero = Point
Nested (suc n) = List (Nested n)

abbrev pub shape_name : Shape → List ℕ
shape_name (MultiSurface surfaces) = codes "MultiSurface"
shape_name (CompositeSurface surfaces) = codes "CompositeSurface"
shape_name (Solid shells) = codes "Solid"
shape_name (MultiSolid solids) = codes "MultiSolid"
shape_name (CompositeSolid solids) = codes "CompositeSolid"

-- the boundaries of a shape, with how many lists their points are within
abbrev pub nested : Shape → (n : ℕ) × Nested n
nested (MultiSurface surfaces) = (3, surfaces)
nested (CompositeSurface surfaces) = (3, surfaces)
nested (Solid shells) = (4, shells)
nested (MultiSolid solids) = (5, solids)
nested (CompositeSolid solids) = (5, solids)

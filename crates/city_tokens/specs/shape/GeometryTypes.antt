-- The types of geometries (CityJSON 2.0, section 3).
use Rattle.std.specs.Prelude.{ℕ, List, [], ◌∷◌, Option, codes, find}
use Rattle.std.specs.Str.{bytes_eq}
use Rattle.city_model.specs.Nesting.{Nested}
use Rattle.city_model.specs.declared.object.Shape.{Shape}
use Rattle.city_model.specs.declared.object.Shape.TheVariants.{MultiSurface, CompositeSurface, Solid, MultiSolid}
use Rattle.city_model.specs.declared.object.Shape.TheVariants.{CompositeSolid}

-- a type of geometry: its name, within how many lists the points of its boundaries are, and its shape
pub record GeometryType : Type 0 where
  pub name : List ℕ
  pub depth : ℕ
  pub shape : Nested depth → Shape

abbrev pub geometry_types : List GeometryType
geometry_types =
    record { name = codes "MultiSurface"; depth = 3; shape = MultiSurface }
    ∷ record { name = codes "CompositeSurface"; depth = 3; shape = CompositeSurface }
    ∷ record { name = codes "Solid"; depth = 4; shape = Solid }
    ∷ record { name = codes "MultiSolid"; depth = 5; shape = MultiSolid }
    ∷ record { name = codes "CompositeSolid"; depth = 5; shape = CompositeSolid }
    ∷ []

-- the type of this name
abbrev pub geometry_type : List ℕ → Option GeometryType
geometry_type name = find (λ t. bytes_eq name t.name) geometry_types

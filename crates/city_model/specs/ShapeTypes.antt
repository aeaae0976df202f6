-- The types of geometries and their names (CityJSON 2.0, section 3.2).
use Rattle.std.specs.Prelude.{ℕ, List, Option, Some, None, codes, if◌then◌else◌}
use Rattle.std.specs.Str.{bytes_eq}
use Rattle.city_model.specs.declared.object.Shape.{Shape}
use Rattle.city_model.specs.declared.shape_type.ShapeType.{ShapeType}

abbrev pub type_name : ShapeType → List ℕ
type_name ShapeType.MultiSurface = codes "MultiSurface"
type_name ShapeType.CompositeSurface = codes "CompositeSurface"
type_name ShapeType.Solid = codes "Solid"
type_name ShapeType.MultiSolid = codes "MultiSolid"
type_name ShapeType.CompositeSolid = codes "CompositeSolid"

abbrev pub type_named : List ℕ → Option ShapeType
type_named s =
    if bytes_eq s (codes "MultiSurface") then Some ShapeType.MultiSurface
    else if bytes_eq s (codes "CompositeSurface") then Some ShapeType.CompositeSurface
    else if bytes_eq s (codes "Solid") then Some ShapeType.Solid
    else if bytes_eq s (codes "MultiSolid") then Some ShapeType.MultiSolid
    else if bytes_eq s (codes "CompositeSolid") then Some ShapeType.CompositeSolid
    else None

abbrev pub type_of : Shape → ShapeType
type_of (Shape.MultiSurface surfaces) = ShapeType.MultiSurface
type_of (Shape.CompositeSurface surfaces) = ShapeType.CompositeSurface
type_of (Shape.Solid shells) = ShapeType.Solid
type_of (Shape.MultiSolid solids) = ShapeType.MultiSolid
type_of (Shape.CompositeSolid solids) = ShapeType.CompositeSolid

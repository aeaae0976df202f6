-- The names of the types of shapes.
use Rattle.city_writer.proofs.Prelude.{◌≡◌, refl, Shape, shape_name}
use Rattle.city_model.specs.ShapeTypes.{type_name, type_of}
use Rattle.city_model.specs.declared.object.Shape.TheVariants.{MultiSurface, CompositeSurface, Solid, MultiSolid}
use Rattle.city_model.specs.declared.object.Shape.TheVariants.{CompositeSolid}

pub shape_named : (shape : Shape) → type_name (type_of shape) ≡ shape_name shape
shape_named (MultiSurface surfaces) = refl
shape_named (CompositeSurface surfaces) = refl
shape_named (Solid shells) = refl
shape_named (MultiSolid solids) = refl
shape_named (CompositeSolid solids) = refl

-- The boundaries of a shape, as the code borrows them.
use Rattle.std.specs.Prelude.{List}
use Rattle.city_model.specs.declared.object.Shape.{Shape}
use Rattle.city_model.specs.declared.shape.Bounds.{Bounds}
use Rattle.city_model.specs.Shells.{Surface, Shell, Solid}

-- surfaces (they needn't close), the shells of one solid, or solids
pub data Boundaries : Type 0 where
  Surfaces : List Surface → Boundaries
  Shells : List Shell → Boundaries
  Solids : List Solid → Boundaries

abbrev pub boundaries_of : Shape → Boundaries
boundaries_of (Shape.MultiSurface surfaces) = Surfaces surfaces
boundaries_of (Shape.CompositeSurface surfaces) = Surfaces surfaces
boundaries_of (Shape.Solid shells) = Shells shells
boundaries_of (Shape.MultiSolid solids) = Solids solids
boundaries_of (Shape.CompositeSolid solids) = Solids solids

abbrev pub bounds_view : Bounds → Boundaries
bounds_view (Bounds.Surfaces surfaces) = Surfaces surfaces.now
bounds_view (Bounds.Shells shells) = Shells shells.now
bounds_view (Bounds.Solids solids) = Solids solids.now

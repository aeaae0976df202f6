-- Geometries before points replace their positions.
use Rattle.std.specs.Prelude.{◌≡◌, ℕ, List, Some, option_and_then, codes}
use Rattle.serde_json.specs.Data.{Data, object, Members}
use Rattle.serde_json.specs.Find.{get_member, as_str}
use Rattle.city_model.specs.declared.object.Geometry.{Geometry}
use Rattle.city_model.specs.declared.object.Shape.{Shape}
use Rattle.city_model.specs.declared.object.Shape.TheVariants as shape
use Rattle.city_model.specs.declared.shape_type.ShapeType.{ShapeType}
use Rattle.city_members.specs.Kept.{kept_at_geometry}
use Rattle.city_members.specs.Members.{AreOrdered}
use Rattle.city_model.specs.ShapeTypes.{type_name}
use Rattle.city_tokens.specs.declared.boundaries.Boundaries.{Boundaries}
use Rattle.city_tokens.specs.declared.boundaries.Boundaries.TheVariants.{Surfaces, Shells, Solids}
use Rattle.city_tokens.specs.declared.geometry.GeometryParts.{GeometryParts}
use Rattle.city_tokens.specs.shape.Geometries.{without_geometry_members}
use Rattle.city_tokens.specs.internal.Positions.{IsNested}
use Rattle.city_tokens.specs.internal.Standing.{IsSlot, IsString}
use Rattle.city_tokens.specs.tree.Members.{kept_if}

abbrev pub AreBoundaries : Boundaries → Data → Type 0
AreBoundaries (Surfaces surfaces) d = IsNested 3 surfaces d
AreBoundaries (Shells shells) d = IsNested 4 shells d
AreBoundaries (Solids solids) d = IsNested 5 solids d

abbrev pub IsKind : ShapeType → Data → Type 0
IsKind k d = as_str d ≡ Some (type_name k)

-- the shape of a type and of boundaries
abbrev pub IsShape : Shape → List ℕ → Data → Type 0
IsShape (shape.MultiSurface surfaces) name d = (name ≡ type_name ShapeType.MultiSurface) × IsNested 3 surfaces d
IsShape (shape.CompositeSurface surfaces) name d = (name ≡ type_name ShapeType.CompositeSurface) × IsNested 3 surfaces d
IsShape (shape.Solid shells) name d = (name ≡ type_name ShapeType.Solid) × IsNested 4 shells d
IsShape (shape.MultiSolid solids) name d = (name ≡ type_name ShapeType.MultiSolid) × IsNested 5 solids d
IsShape (shape.CompositeSolid solids) name d = (name ≡ type_name ShapeType.CompositeSolid) × IsNested 5 solids d

pub record IsGeometry (g : Geometry) (d : Data) : Type 0 where
  pub found : Members
  pub is : d ≡ object found
  pub name : List ℕ
  pub boundaries : Data
  pub named : option_and_then as_str (get_member (codes "type") found) ≡ Some name
  pub bounded : get_member (codes "boundaries") found ≡ Some boundaries
  pub shape : IsShape g.shape name boundaries
  pub lod : option_and_then as_str (get_member (codes "lod") found) ≡ Some g.lod
  pub extra : kept_if kept_at_geometry (without_geometry_members found) ≡ Some g.extra

-- a geometry's members read so far
pub record IsGeometrySoFar (parts : GeometryParts) (found kept : Members) : Type 0 where
  pub kind : IsSlot IsKind parts.kind (get_member (codes "type") found)
  pub lod : IsSlot IsString parts.lod (get_member (codes "lod") found)
  pub boundaries : IsSlot AreBoundaries parts.boundaries (get_member (codes "boundaries") found)
  pub ordered : AreOrdered found
  pub extra : kept ≡ without_geometry_members found

-- Closed and open shells, and the faults of bodies, worked out on small solids.
use Rattle.city_model.proofs.Prelude.{◌≡◌, refl, codes, no_members, Point, Body, Shape, Building, Surface, body_fault}
use Rattle.std.specs.Prelude.{ℕ, pos, List, [], ◌∷◌, true, false, Some, None}
use Rattle.city_model.specs.declared.object.Geometry.{Geometry}
use Rattle.city_model.specs.declared.object.Shape.TheVariants.{MultiSurface, Solid, MultiSolid, CompositeSolid}
use Rattle.city_model.specs.declared.command.Cause.TheVariants.{ShortRing, SameTwice, OpenShell}
use Rattle.city_model.specs.Shells.{Ring, Shell, is_closed}

abbrev corner : ℕ → ℕ → ℕ → Point
corner x y z = record { x = pos x; y = pos y; z = pos z }

abbrev face : Point → Point → Point → Point → Surface
face p q r s = (p ∷ q ∷ r ∷ s ∷ []) ∷ []

-- the faces of the unit cube, each seen counter-clockwise from outside; the face above is given
abbrev cube_under : Surface → Shell
cube_under above =
    face (corner 0 0 0) (corner 0 1 0) (corner 1 1 0) (corner 1 0 0)
    ∷ above
    ∷ face (corner 0 0 0) (corner 1 0 0) (corner 1 0 1) (corner 0 0 1)
    ∷ face (corner 1 0 0) (corner 1 1 0) (corner 1 1 1) (corner 1 0 1)
    ∷ face (corner 1 1 0) (corner 0 1 0) (corner 0 1 1) (corner 1 1 1)
    ∷ face (corner 0 1 0) (corner 0 0 0) (corner 0 0 1) (corner 0 1 1)
    ∷ []

abbrev pub cube : Shell
cube = cube_under (face (corner 0 0 1) (corner 1 0 1) (corner 1 1 1) (corner 0 1 1))

-- the cube with the face above turned over
abbrev pub cube_with_turned_face : Shell
cube_with_turned_face = cube_under (face (corner 0 1 1) (corner 1 1 1) (corner 1 0 1) (corner 0 0 1))

pub cube_is_closed : is_closed cube ≡ true
cube_is_closed = refl

pub turned_face_is_an_open_shell : is_closed cube_with_turned_face ≡ false
turned_face_is_an_open_shell = refl

-- ---- bodies

abbrev of_shape : Shape → Geometry
of_shape shape = record { lod = codes "1"; shape = shape; extra = no_members }

abbrev body_of : List Geometry → Body
body_of geometry = record { kind = Building; geometry = geometry; extra = no_members }

abbrev origin : Point
origin = corner 0 0 0

abbrev triangle : Ring
triangle = origin ∷ corner 1 0 0 ∷ corner 0 1 0 ∷ []

abbrev two_points : Ring
two_points = origin ∷ corner 1 0 0 ∷ []

abbrev flat : Ring → Geometry
flat ring = of_shape (MultiSurface ((ring ∷ []) ∷ []))

abbrev pub solid : Shell → Geometry
solid shell = of_shape (Solid (shell ∷ []))

pub cube_has_no_fault : body_fault (body_of (solid cube ∷ [])) ≡ None
cube_has_no_fault = refl

pub turned_face_is_a_fault : body_fault (body_of (solid cube_with_turned_face ∷ [])) ≡ Some OpenShell
turned_face_is_a_fault = refl

pub second_solid_may_be_open : body_fault
    (body_of (of_shape (MultiSolid ((cube ∷ []) ∷ (cube_with_turned_face ∷ []) ∷ [])) ∷ [])) ≡ Some OpenShell
second_solid_may_be_open = refl

-- each shell is closed by itself, so no edge of one counts for another
pub equal_solids_have_no_fault : body_fault (body_of (of_shape (CompositeSolid ((cube ∷ []) ∷ (cube ∷ []) ∷ [])) ∷ []))
    ≡ None
equal_solids_have_no_fault = refl

pub two_points_are_a_short_ring : body_fault (body_of (flat two_points ∷ [])) ≡ Some ShortRing
two_points_are_a_short_ring = refl

pub surface_without_a_ring_is_short : body_fault (body_of (of_shape (MultiSurface ([] ∷ [])) ∷ [])) ≡ Some ShortRing
surface_without_a_ring_is_short = refl

pub equal_neighbours_are_the_same_twice : body_fault (body_of (flat (origin ∷ corner 1 0 0 ∷ corner 1 0 0 ∷ []) ∷ []))
    ≡ Some SameTwice
equal_neighbours_are_the_same_twice = refl

-- the last point is a neighbour of the first
pub repeated_first_point_is_the_same_twice : body_fault
    (body_of (flat (origin ∷ corner 1 0 0 ∷ corner 0 1 0 ∷ origin ∷ []) ∷ [])) ≡ Some SameTwice
repeated_first_point_is_the_same_twice = refl

pub one_triangle_is_an_open_shell : body_fault (body_of (solid ((triangle ∷ []) ∷ []) ∷ [])) ≡ Some OpenShell
one_triangle_is_an_open_shell = refl

-- a triangle outside of a shell is no fault
pub one_triangle_is_a_surface : body_fault (body_of (flat triangle ∷ [])) ≡ None
one_triangle_is_a_surface = refl

-- of the faults of two geometries the first in the causes' order counts, not the fault of the first geometry
pub short_ring_comes_before_an_open_shell : body_fault (body_of (solid ((triangle ∷ []) ∷ []) ∷ flat two_points ∷ []))
    ≡ Some ShortRing
short_ring_comes_before_an_open_shell = refl

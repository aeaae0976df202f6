-- Rings, surfaces and closed shells, over points (CityJSON 2.0, section 3.2).
use Rattle.std.specs.Prelude.{ℕ, ◌+◌, ◌==◌, ◌&&◌, ◌||◌, not, nat_lt, List, [], ◌∷◌, ◌++◌, Bool, length, take}
use Rattle.std.specs.Prelude.{drop, Option, Some, None, if◌then◌else◌}
use Rattle.std.specs.Ordering.{int_eq}
use Rattle.std.specs.List.{list_any, list_all, zip}
use Rattle.city_model.specs.declared.object.Point.{Point}
use Rattle.city_model.specs.declared.object.Shape.{Shape}
use Rattle.city_model.specs.declared.object.Geometry.{Geometry}
use Rattle.city_model.specs.declared.object.Body.{Body}
use Rattle.city_model.specs.declared.command.Cause.{Cause}
use Rattle.city_model.specs.declared.command.Cause.TheVariants.{ShortRing, SameTwice, OpenShell}

abbrev pub Ring : Type 0
Ring = List Point

abbrev pub Surface : Type 0
Surface = List Ring

abbrev pub Shell : Type 0
Shell = List Surface

-- an exterior shell, then interior ones
abbrev pub Solid : Type 0
Solid = List Shell

abbrev pub Edge : Type 0
Edge = Point × Point

abbrev pub same_point : Point → Point → Bool
same_point p q = int_eq p.x q.x && int_eq p.y q.y && int_eq p.z q.z

abbrev pub same_edge : Edge → Edge → Bool
same_edge e f = same_point e.0 f.0 && same_point e.1 f.1

abbrev pub flipped : Edge → Edge
flipped e = (e.1, e.0)

-- from each point of the ring to the next one, and from the last to the first
abbrev pub ring_edges : Ring → List Edge
ring_edges r = zip r (drop 1 r ++ take 1 r)

abbrev pub surface_edges : Surface → List Edge
surface_edges [] = []
surface_edges (r ∷ rs) = ring_edges r ++ surface_edges rs

abbrev pub edges_of : Shell → List Edge
edges_of [] = []
edges_of (s ∷ ss) = surface_edges s ++ edges_of ss

-- how many of the list are the same as x
abbrev pub times : {T : Type 0} → (T → T → Bool) → T → List T → ℕ
times same x [] = 0
times same x (y ∷ ys) = if same x y then 1 + times same x ys else times same x ys

abbrev pub occurs_once : {T : Type 0} → (T → T → Bool) → List T → T → Bool
occurs_once same xs x = times same x xs == 1

-- the edge occurs once, and so does the reversed edge
abbrev pub runs_both_ways : List Edge → Edge → Bool
runs_both_ways es e = occurs_once same_edge es e && occurs_once same_edge es (flipped e)

-- each edge is run once each way
abbrev pub is_closed : Shell → Bool
is_closed shell = list_all (runs_both_ways (edges_of shell)) (edges_of shell)

-- ---- the boundaries of a geometry

-- the lists one after another
abbrev pub joined : {T : Type 0} → List (List T) → List T
joined [] = []
joined (xs ∷ xss) = xs ++ joined xss

-- its surfaces; they needn't close, or are of the shells of its solids
abbrev pub surfaces_of : Shape → List Surface
surfaces_of (Shape.MultiSurface surfaces) = surfaces
surfaces_of (Shape.CompositeSurface surfaces) = surfaces
surfaces_of (Shape.Solid shells) = joined shells
surfaces_of (Shape.MultiSolid solids) = joined (joined solids)
surfaces_of (Shape.CompositeSolid solids) = joined (joined solids)

abbrev pub solids_of : Shape → List Solid
solids_of (Shape.MultiSurface surfaces) = []
solids_of (Shape.CompositeSurface surfaces) = []
solids_of (Shape.Solid shells) = shells ∷ []
solids_of (Shape.MultiSolid solids) = solids
solids_of (Shape.CompositeSolid solids) = solids

-- ---- the rules of one geometry

abbrev pub is_short_ring : Ring → Bool
is_short_ring r = nat_lt (length r) 3

-- no ring, or one of fewer than three points
abbrev pub is_short_surface : Surface → Bool
is_short_surface s = (length s == 0) || list_any is_short_ring s

-- an edge from a point to the same point
abbrev pub is_same_pair : Edge → Bool
is_same_pair e = same_point e.0 e.1

abbrev pub has_same_neighbours : Ring → Bool
has_same_neighbours r = list_any is_same_pair (ring_edges r)

abbrev pub has_short_ring : Shape → Bool
has_short_ring shape = list_any is_short_surface (surfaces_of shape)

abbrev pub has_same_twice : Shape → Bool
has_same_twice shape = list_any (list_any has_same_neighbours) (surfaces_of shape)

abbrev pub is_open_shell : Shell → Bool
is_open_shell shell = not (is_closed shell)

-- each shell of each solid is judged by itself
abbrev pub has_open_shell : Shape → Bool
has_open_shell shape = list_any (list_any is_open_shell) (solids_of shape)

-- ---- the rules of geometries

-- some geometry of the list has it
abbrev pub any_shape : (Shape → Bool) → List Geometry → Bool
any_shape test gs = list_any (λ g. test g.shape) gs

-- the first of the three causes in some geometry
abbrev pub geometry_fault : List Geometry → Option Cause
geometry_fault gs =
    if any_shape has_short_ring gs then Some ShortRing
    else (if any_shape has_same_twice gs then Some SameTwice
    else (if any_shape has_open_shell gs then Some OpenShell else None))

-- ---- the rules of a body

-- some geometry of the body has it
abbrev pub some_shape : (Shape → Bool) → Body → Bool
some_shape test body = any_shape test body.geometry

-- the first of the three causes in some geometry of the body
abbrev pub body_fault : Body → Option Cause
body_fault body = geometry_fault body.geometry

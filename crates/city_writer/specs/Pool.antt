-- The points of a city in walking order, and its vertices, each once (CityJSON 2.0, section 2, `vertices`).
use Rattle.std.specs.Prelude.{ℕ, zero, suc, not, List, [], ◌∷◌, ◌++◌, filter, flat_map, if◌then◌else◌}
use Rattle.std.specs.List.{list_any, position_or_len}
use Rattle.std.specs.FinMap.{entries}
use Rattle.city_model.specs.declared.object.Point.{Point}
use Rattle.city_model.specs.declared.object.Shape.{Shape}
use Rattle.city_model.specs.declared.object.Geometry.{Geometry}
use Rattle.city_model.specs.declared.object.Object.{Object}
use Rattle.city_model.specs.Shells.{same_point}
use Rattle.city_model.specs.CityMap.{CityValue}
use Rattle.city_model.specs.Nesting.{Nested, nested}

-- ---- the walk: ids in byte order, then geometries, solids, shells, surfaces, rings and points, each in order

abbrev pub nested_points : (n : ℕ) → Nested n → List Point
nested_points zero = λ p. p ∷ []
nested_points (suc n) = flat_map (nested_points n)

abbrev pub shape_points : Shape → List Point
shape_points shape = let b = nested shape in nested_points b.0 b.1

abbrev pub geometry_points : Geometry → List Point
geometry_points g = shape_points g.shape

abbrev pub object_points : Object → List Point
object_points o = flat_map geometry_points o.body.geometry

abbrev pub city_points : CityValue → List Point
city_points c = flat_map (λ e. object_points e.1) (entries c.1)

-- ---- the vertices

-- the points with later repeats taken out
abbrev pub without_repeats : List Point → List Point
without_repeats [] = []
without_repeats (p ∷ ps) = p ∷ filter (λ q. not (same_point p q)) (without_repeats ps)

-- the vertices of a city
abbrev pub pool_of : CityValue → List Point
pool_of c = without_repeats (city_points c)

-- the number of a point: the index of an equal one, or the number of points if there is none
abbrev pub number_of : List Point → Point → ℕ
number_of pool p = position_or_len (same_point p) pool

-- the pool with a point; a new point goes last
abbrev pub with_point : List Point → Point → List Point
with_point pool p = if list_any (same_point p) pool then pool else pool ++ p ∷ []

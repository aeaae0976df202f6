-- Cities and objects with no kept members but ones that may be kept at their places. Every value of the program is like
-- this; one made up in a clause may not be.
use Rattle.std.specs.Prelude.{◌≡◌, ◌&&◌, Bool, true}
use Rattle.std.specs.List.{list_all}
use Rattle.std.specs.FinMap.{entries}
use Rattle.city_model.specs.declared.object.Geometry.{Geometry}
use Rattle.city_model.specs.declared.object.Object.{Object}
use Rattle.city_model.specs.CityMap.{Entries, CityValue}
use Rattle.city_members.specs.Kept.{kept_at_top, kept_at_transform, kept_at_object, kept_at_geometry}

unfoldable pub is_kept_geometry : Geometry → Bool
is_kept_geometry g = kept_at_geometry g.extra

unfoldable pub is_kept_object : Object → Bool
is_kept_object o = kept_at_object o.body.extra && list_all is_kept_geometry o.body.geometry

abbrev pub are_kept_objects : Entries → Bool
are_kept_objects es = list_all (λ e. is_kept_object e.1) es

-- the kept members of the frame, of each object and of each geometry are kept at their places
pub record IsKeptCity (c : CityValue) : Type 0 where
  pub at_top : kept_at_top c.0.extra ≡ true
  pub at_transform : kept_at_transform c.0.more ≡ true
  pub objects : are_kept_objects (entries c.1) ≡ true

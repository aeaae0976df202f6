-- Cities with numbers in the range of the program's types. Every city of the program is in range; one made up in a
-- clause may not be.
use Rattle.std.specs.Prelude.{◌≡◌, ◌<◌, ◌^◌, List, true, length}
use Rattle.std.specs.List.{list_all}
use Rattle.city_model.specs.declared.frame.Frame.{Frame}
use Rattle.city_model.specs.declared.object.Point.{Point}
use Rattle.city_writer.specs.shape.Vertices.{is_i64_point}
use Rattle.city_writer.specs.tree.Ranges.{is_i64_triple}

-- the numbers of a frame and of the points of a pool, and how many points there are
pub record IsInRange (pool : List Point) (f : Frame) : Type 0 where
  pub scale : is_i64_triple f.scale ≡ true
  pub translate : is_i64_triple f.translate ≡ true
  pub points : list_all is_i64_point pool ≡ true
  pub fewer : length pool < 2 ^ 63

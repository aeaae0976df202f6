-- Points with numbers.
use Rattle.std.specs.Prelude.{List}
use Rattle.city_model.specs.declared.object.Point.{Point}
use Rattle.city_writer.specs.declared.point_numbers.Source.{Source}

abbrev pub points_of : Source → List Point
points_of (Source.Met pool) = pool
points_of (Source.Known known) = known

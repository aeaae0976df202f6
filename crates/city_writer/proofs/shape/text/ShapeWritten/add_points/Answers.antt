use Rattle.city_writer.proofs.Prelude.{rules}
use Rattle.city_writer.proofs.shape.Bounded.{nested_as}
use Rattle.city_writer.proofs.shape.text.ShapeWritten.add_points.Goals as goal

pub returns-in-Surfaces : goal.returns-in-Surfaces
returns-in-Surfaces c = rw (nested_as c.args.self.now, ← c.bounds.ensures, c.in-Surfaces.is) (search rules)

pub returns-in-Shells : goal.returns-in-Shells
returns-in-Shells c = rw (nested_as c.args.self.now, ← c.bounds.ensures, c.in-Shells.is) (search rules)

pub returns-in-Solids : goal.returns-in-Solids
returns-in-Solids c = rw (nested_as c.args.self.now, ← c.bounds.ensures, c.in-Solids.is) (search rules)

-- The two faults of rings, each asked by the same walk.
use Rattle.std.specs.Prelude.{Bool}
use Rattle.std.specs.List.{list_any}
use Rattle.city_model.specs.declared.object.Shape.{Shape}
use Rattle.city_model.specs.declared.rings.RingFault.{RingFault}
use Rattle.city_model.specs.Shells.{Surface, surfaces_of, is_short_surface, has_same_neighbours}

abbrev pub is_faulty : RingFault → Surface → Bool
is_faulty RingFault.Short surface = is_short_surface surface
is_faulty RingFault.SameTwice surface = list_any has_same_neighbours surface

abbrev pub has_ring_fault : RingFault → Shape → Bool
has_ring_fault fault shape = list_any (is_faulty fault) (surfaces_of shape)

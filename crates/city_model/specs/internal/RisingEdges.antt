-- The edges noted by the code as they are, and not turned.
use Rattle.std.specs.Prelude.{List, Bool}
use Rattle.std.specs.List.{filter}
use Rattle.std.specs.Ordering.{int_cmp, ordering_then, is_le}
use Rattle.city_model.specs.Shells.{Edge}

-- its first point isn't above its second one: by x, then y, then z
abbrev pub rises : Edge → Bool
rises e = is_le (ordering_then (int_cmp e.0.x e.1.x) (ordering_then (int_cmp e.0.y e.1.y) (int_cmp e.0.z e.1.z)))

abbrev pub rising : List Edge → List Edge
rising es = filter rises es

use Rattle.city_texts.proofs.Prelude.{◌≡◌, ◌++◌, into_iter_items}
use Rattle.std.specs.Prelude.{flat_map}
use Rattle.std.specs.Vec.{vec_items}
use Rattle.city_texts.proofs.stretches.stretches_of.Given as goal

abbrev pub invariant-objects : goal.invariant-objects
invariant-objects l =
    l.fn.objects.items ≡ flat_map vec_items l.stretches.items ++ l.stretch.items ++ into_iter_items l.object-iterator

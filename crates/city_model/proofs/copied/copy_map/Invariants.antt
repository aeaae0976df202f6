use Rattle.city_model.proofs.Prelude.{◌≡◌, ◌++◌}
use Rattle.city_model.proofs.copied.copy_map.Given as goal

abbrev pub invariant-loop-id : goal.invariant-loop-id
invariant-loop-id g l = l.map.entries ≡ l.copies.items ++ l.id-iterator

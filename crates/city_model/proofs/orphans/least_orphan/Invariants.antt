use Rattle.city_model.proofs.Prelude.{◌≡◌, entries}
use Rattle.city_model.proofs.Lawfulness.{first_orphan}
use Rattle.city_model.proofs.orphans.least_orphan.Given as goal

abbrev pub invariant-loop-id : goal.invariant-loop-id
invariant-loop-id l = first_orphan (entries l.city.1) ≡ first_orphan l.id-iterator

use Rattle.city_model.proofs.Prelude.{◌≡◌, entries, object_at, is_misrelated}
use Rattle.city_model.proofs.FirstEntry.{first_that}
use Rattle.city_model.proofs.relations.relations_fault.Given as goal

abbrev pub invariant-loop-id : goal.invariant-loop-id
invariant-loop-id l =
    first_that (is_misrelated (object_at l.city.1)) (entries l.city.1) ≡ first_that (is_misrelated (object_at l.city.1))
    l.id-iterator

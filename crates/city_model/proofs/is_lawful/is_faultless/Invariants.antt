use Rattle.city_model.proofs.Prelude.{◌≡◌, entries}
use Rattle.city_model.proofs.Lawfulness.{all_faultless}
use Rattle.city_model.proofs.is_lawful.is_faultless.Given as goal

abbrev pub invariant-loop-object : goal.invariant-loop-object
invariant-loop-object l = all_faultless (entries l.city.1) ≡ all_faultless l.object-iterator

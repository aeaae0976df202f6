use Rattle.city_model.proofs.Prelude.{◌≡◌, drop, first_named}
use Rattle.city_model.proofs.object_type.first_named.Given as goal

abbrev pub invariant-loop-kind : goal.invariant-loop-kind
invariant-loop-kind l = first_named l.text l.kinds ≡ first_named l.text (drop l.kind-index l.kinds)

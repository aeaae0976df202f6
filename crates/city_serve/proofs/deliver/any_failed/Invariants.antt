use Rattle.city_serve.proofs.Prelude.{◌≡◌, drop}
use Rattle.std.specs.List.{list_any}
use Rattle.city_serve.specs.Destinations.{has_failed}
use Rattle.city_serve.proofs.deliver.any_failed.Given as goal

abbrev pub invariant-loop-end : goal.invariant-loop-end
invariant-loop-end l = list_any has_failed l.ends ≡ list_any has_failed (drop l.end-index l.ends)

use Rattle.city_model.proofs.Prelude.{◌≡◌, drop, list_any}
use Rattle.city_model.specs.Shells.{has_open_shell}
use Rattle.city_model.proofs.body_fault.any_open_shell.Given as goal

abbrev pub invariant-loop-g : goal.invariant-loop-g
invariant-loop-g l =
    list_any (λ g. has_open_shell g.shape) l.geometry ≡ list_any (λ g. has_open_shell g.shape)
    (drop l.g-index l.geometry)

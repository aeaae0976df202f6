use Rattle.city_model.proofs.Prelude.{◌≡◌, false, AllAdjacentBelow, eq_by_cmp}
use Rattle.city_model.proofs.shells.has_repeats.Given as goal

abbrev pub invariant-loop-i : goal.invariant-loop-i
invariant-loop-i g l = AllAdjacentBelow (λ x y. eq_by_cmp g.T.Ord.cmp x y ≡ false) l.items l.i

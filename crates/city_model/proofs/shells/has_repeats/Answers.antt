use Rattle.city_model.proofs.Prelude.{sym, ap, not, arith, eq_by_cmp_equiv}
use Rattle.city_model.proofs.SortedEdges.{all_self, distinct_from_neighbours, repeated_neighbour}
use Rattle.city_model.proofs.shells.has_repeats.Goals as goal

pub returns-then-is_eq : goal.returns-then-is_eq
returns-then-is_eq g c = grind (arith, repeated_neighbour)

pub returns : goal.returns
returns g c =
    sym (ap not (all_self (eq_by_cmp_equiv g.met.T.Ord.total) c.args.items.now
    (distinct_from_neighbours g.met.T.Ord.total c.args.items.now c.requires
    (λ k d less. c.loop-i.invariant k d (omega arith)))))

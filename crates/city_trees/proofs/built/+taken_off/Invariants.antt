use Rattle.city_trees.proofs.built.+taken_off.Given as goal

abbrev pub decreases-taken_off : goal.decreases-taken_off
decreases-taken_off g l = l.count

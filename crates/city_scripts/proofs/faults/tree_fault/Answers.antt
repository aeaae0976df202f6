use Rattle.city_scripts.proofs.Prelude.{sym, array_of-integral}
use Rattle.city_scripts.proofs.faults.tree_fault.Goals as goal

pub items_fault-requires-clause-whole : goal.items_fault-requires-clause-whole
items_fault-requires-clause-whole c = array_of-integral _ _ c.requires.whole (sym c.in-Some.ensures.list)

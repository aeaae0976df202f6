use Rattle.city_scripts.proofs.Prelude.{sym, IfOk-weaker, view}
use Rattle.city_scripts.proofs.AllFaults.{those_of_items, other_alone}
use Rattle.city_scripts.proofs.all_faults.tree_faults.Goals as goal

pub returns-in-Some : goal.returns-in-Some
returns-in-Some c =
    IfOk-weaker c.item_faults.result _ _
    (λ faults h. those_of_items (view c.args.tree) _ _ c.requires (sym c.in-Some.ensures.list) h)
    c.item_faults.ensures

pub returns-in-None : goal.returns-in-None
returns-in-None c =
    IfOk-weaker c.alone.result _ _
    (λ faults is. rw is (other_alone (view c.args.tree) c.requires (sym c.in-None.ensures.list))) c.alone.ensures

use Rattle.city_doc.proofs.Prelude.{view}
use Rattle.city_doc.proofs.document.AllFaults.{none_of_city}
use Rattle.city_doc.proofs.document.all_faults.tree_faults.Goals as goal

pub returns-in-Ok : goal.returns-in-Ok
returns-in-Ok c =
    let city = rw c.in-Ok.is at c.in_ok-judge.ensures in
    rw c.new.ensures.items (none_of_city (view c.args.tree) _ c.requires city.0 city.1)

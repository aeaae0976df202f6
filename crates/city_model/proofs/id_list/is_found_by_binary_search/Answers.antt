use Rattle.city_model.proofs.IdLists.{found_there}
use Rattle.city_model.proofs.id_list.is_found_by_binary_search.Goals as goal

pub returns-in-Ok : goal.returns-in-Ok
returns-in-Ok c = λ _. found_there c.args.ids.now c.args.id.now c.in-Ok.field-0 c.in-Ok.ensures.bound c.in-Ok.ensures.ok

use Rattle.city_model.proofs.Prelude.{rules, false≢true}
use Rattle.std.proofs.lemmas.Bool.{false_from_ne_true}
use Rattle.city_members.proofs.Ids.{same_id_true}
use Rattle.city_model.proofs.id_list.is_same_id.Goals as goal

pub returns-else-end_alike : goal.returns-else-end_alike
returns-else-end_alike c = search (rules, false_from_ne_true, false≢true, same_id_true)

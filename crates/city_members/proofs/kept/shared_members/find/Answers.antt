use Rattle.city_members.proofs.Prelude.{sym}
use Rattle.city_members.proofs.KeptLists.{value_free}
use Rattle.city_members.proofs.kept.shared_members.find.Goals as goal

pub returns-in-Err : goal.returns-in-Err
returns-in-Err c = sym (value_free c.args.tree.now c.args.name.now c.in-Err.field-0 c.in-Err.ensures.free)

use Rattle.city_members.proofs.Prelude.{arith}
use Rattle.city_members.proofs.KeptLists.{has_no_member-data}
use Rattle.city_members.proofs.kept.shared_members.SharedMembers.is_empty.Goals as goal

pub returns : goal.returns
returns c = grind (arith, has_no_member-data c.self.inside.tree)

use Rattle.city_members.proofs.Prelude.{arith, view-lookup}
use Rattle.serde_json.proofs.Views.{view_of_ref}
use Rattle.city_members.proofs.members.member.Goals as goal

pub returns : goal.returns
returns c = grind (arith, view_of_ref c.get.result, view-lookup c.args.name.now c.args.members.now.entries)

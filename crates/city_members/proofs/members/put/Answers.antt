use Rattle.city_members.proofs.Prelude.{ap, ◌∙◌, members_view}
use Rattle.serde_json.proofs.Views.{members_view-insert_entry}
use Rattle.city_members.proofs.members.put.Goals as goal

pub returns : goal.returns
returns c = ap members_view c.in_ok-_before.ensures.entries
    ∙ members_view-insert_entry c.args.members.now.entries c.args.name c.args.value

use Rattle.city_members.proofs.Prelude.{◌≡◌, drop}
use Rattle.city_members.specs.internal.KeptValues.{members_data}
use Rattle.serde_json.specs.Find.{get_member}
use Rattle.city_members.proofs.kept.few_members.FewMembers.get.Given as goal

abbrev pub invariant-loop-other : goal.invariant-loop-other
invariant-loop-other l =
    get_member l.name (members_data l.other-items) ≡ get_member l.name (members_data (drop l.other-index l.other-items))

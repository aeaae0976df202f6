use Rattle.city_tokens.proofs.Prelude.{◌≡◌, refl, ap, ◌∙◌, arith, rules, put, members_view, view}
use Rattle.std.proofs.Common.{string_bytes}
use Rattle.serde_json.proofs.Views.{members_view-insert_entry}
use Rattle.city_members.specs.internal.KeptValues.{value_data}
use Rattle.city_tokens.proofs.value.read_member.Goals as goal

pub returns : goal.returns
returns c =
    let kept = c.in_ok-member.member in
    let v = c.in_ok-member-2.member in
    let members = c.args.members.now.entries in
    let is : view v ≡ value_data kept = search rules in
    let copied : string_bytes c.in_ok-key.key ≡ c.args.name.now = search rules in
    let inserted : members_view c.insert.new.self.entries
    ≡ put c.args.name.now (value_data kept) (members_view members) =
    ap members_view (grind arith) ∙ members_view-insert_entry members c.in_ok-key.key v ∙ rw (copied, is) refl in
    (value_data kept, c.in_ok-member.ensures, inserted)

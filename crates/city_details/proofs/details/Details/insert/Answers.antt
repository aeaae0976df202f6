use Rattle.city_details.proofs.Prelude.{◌≡◌, ◌∙◌, ap, arith, rules, refl, string_bytes, put, view, members_view}
use Rattle.city_details.proofs.Prelude.{members_view-insert_entry, members_have_float}
use Rattle.city_details.proofs.Floats.{put_stays}
use Rattle.city_details.proofs.details.Details.insert.Goals as goal

pub invariant_of-self-2 : goal.invariant_of-self-2
invariant_of-self-2 c =
    let members = c.self.inside.members.entries in
    let name = c.args.name.now in
    let value = view c.args.value in
    let copied : string_bytes c.in_ok-name.name ≡ name = search rules in
    let inserted : members_view c.insert.new.self.entries ≡ put name value (members_view members) =
    ap members_view (grind arith) ∙ members_view-insert_entry members c.in_ok-name.name c.args.value
    ∙ rw copied refl in
    ap members_have_float inserted ∙ put_stays name value (members_view members) c.requires c.self.invariant

pub returns : goal.returns
returns c =
    let members = c.self.inside.members.entries in
    let name = c.args.name.now in
    let value = view c.args.value in
    let copied : string_bytes c.in_ok-name.name ≡ name = search rules in
    let inserted : members_view c.insert.new.self.entries ≡ put name value (members_view members) =
    ap members_view (grind arith) ∙ members_view-insert_entry members c.in_ok-name.name c.args.value
    ∙ rw copied refl in
    inserted ∙ ap (put name value) c.self.view_is

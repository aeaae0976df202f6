use Rattle.std.proofs.Common.{rules, ◌≡◌, ◌∷◌, [], Some, ap, ◌∙◌}
use Rattle.serde_json.proofs.Views.{view-Object}
use Rattle.serde_json.specs.Data.{object}
use Rattle.serde_json.specs.Find.{get_member}
use Rattle.serde_json.specs.View.{members_view, view}
use Rattle.city_serve.proofs.FramedCities.{one_found}
use Rattle.city_serve.proofs.decimals.is_tagged_object.Goals as goal

pub returns-in-Some-Object : goal.returns-in-Some-Object
returns-in-Some-Object c one =
    let all = members_view c.args.members.now.entries in
    let value = c.in-Some-Object.field-0.now in
    let inside = members_view c.in-Some-Object.field-0-0.entries in
    let found : get_member (35 ∷ []) all ≡ Some (view value) = search rules in
    let is : view value ≡ object inside =
    ap view c.in-Some-Object.field-0-is ∙ view-Object c.in-Some-Object.field-0-0 in
    (inside, one_found (35 ∷ []) inside all (search rules) (found ∙ ap Some is))

use Rattle.city_members.proofs.Prelude.{◌∙◌, ap, subst, sym}
use Rattle.city_members.specs.internal.KeptValues.{members_data}
use Rattle.city_members.specs.internal.MemberPlaces.{IsAt, IsPlaceFor}
use Rattle.city_members.proofs.KeptLists.{data_left, place_left, without_free}
use Rattle.city_members.proofs.kept.few_members.clear.Goals as goal

pub returns-in-Ok-clause-left : goal.returns-in-Ok-clause-left
returns-in-Ok-clause-left c =
    let ms = c.args.members.now.items in
    let found : IsAt ms c.args.name.now c.in-Ok.at =
    subst (λ xs. IsAt xs c.args.name.now c.in-Ok.at) c.as_slice.ensures.value c.in-Ok.ensures.found in
    ap members_data c.remove.ensures.by_index.2 ∙ data_left ms c.args.name.now c.in-Ok.at found

pub returns-in-Ok-clause-place : goal.returns-in-Ok-clause-place
returns-in-Ok-clause-place c =
    let ms = c.args.members.now.items in
    let found : IsAt ms c.args.name.now c.in-Ok.at =
    subst (λ xs. IsAt xs c.args.name.now c.in-Ok.at) c.as_slice.ensures.value c.in-Ok.ensures.found in
    subst (λ xs. IsPlaceFor xs c.args.name.now c.in-Ok.at) (sym c.remove.ensures.by_index.2)
    (place_left ms c.args.name.now c.in-Ok.at found)

pub returns-in-Err-clause-left : goal.returns-in-Err-clause-left
returns-in-Err-clause-left c =
    let ms = c.args.members.now.items in
    let free : IsPlaceFor ms c.args.name.now c.in-Err.at =
    subst (λ xs. IsPlaceFor xs c.args.name.now c.in-Err.at) c.as_slice.ensures.value c.in-Err.ensures.free in
    without_free ms c.args.name.now c.in-Err.at free

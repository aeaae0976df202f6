use Rattle.city_members.proofs.Prelude.{◌∙◌, ap, refl, string_bytes, subst}
use Rattle.std.proofs.lemmas.Result.{IfOk-weaker}
use Rattle.std.specs.Result.{IfOk, IfErr}
use Rattle.city_members.specs.internal.KeptValues.{members_data}
use Rattle.city_members.specs.internal.MemberPlaces.{IsAt, IsPlaceFor}
use Rattle.city_members.proofs.KeptLists.{put_at, put_free}
use Rattle.city_members.proofs.kept.shared_members.put_at.Goals as goal

pub returns-in-Ok : goal.returns-in-Ok
returns-in-Ok c =
    let found = subst (λ r. IfOk r (IsAt c.args.tree (string_bytes c.args.member.0))) c.in-Ok.is c.requires.found in
    IfOk-weaker c.replaced.result _ _
    (λ others is. ap members_data is
    ∙ put_at c.args.tree _ c.in-Ok.at found c.args.member refl c.requires.ordered) c.replaced.ensures

pub returns-in-Err : goal.returns-in-Err
returns-in-Err c =
    let free = subst (λ r. IfErr r (IsPlaceFor c.args.tree (string_bytes c.args.member.0))) c.in-Err.is c.requires.free in
    IfOk-weaker c.with.result _ _
    (λ others is. ap members_data is ∙ put_free c.args.tree _ c.in-Err.at c.args.member refl free) c.with.ensures

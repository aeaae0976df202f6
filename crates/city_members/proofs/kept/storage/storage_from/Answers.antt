use Rattle.city_members.proofs.Prelude.{◌≡◌, ◌∙◌, ap, subst, sym, members_view}
use Rattle.std.specs.Prelude.{IfOk}
use Rattle.serde_json.specs.Data.{put}
use Rattle.serde_json.specs.View.{view}
use Rattle.city_members.specs.Attributes.{attributes}
use Rattle.city_members.specs.internal.KeptIn.{kept_in}
use Rattle.city_members.proofs.KeptIn.{without_absent, put_back}
use Rattle.city_members.proofs.kept.storage.storage_from.Goals as goal

pub returns-in-None : goal.returns-in-None
returns-in-None c =
    subst (λ ms. IfOk c.storage_of.result (λ storage. kept_in storage ≡ ms))
    (c.in-None.ensures.left
    ∙ without_absent attributes (members_view c.args.members.entries) (sym c.in-None.ensures.found))
    c.storage_of.ensures

pub returns-in-Some : goal.returns-in-Some
returns-in-Some c =
    subst (λ ms. IfOk c.storage_with.result (λ storage. kept_in storage ≡ ms))
    (ap (put attributes (view c.in-Some.value)) c.in-Some.ensures.left
    ∙ put_back attributes (view c.in-Some.value) (members_view c.args.members.entries) c.requires
    (sym c.in-Some.ensures.found))
    c.storage_with.ensures

use Rattle.city_members.proofs.Prelude.{◌∙◌, ap, string_bytes, sym}
use Rattle.serde_json.specs.Data.{put}
use Rattle.city_members.specs.internal.KeptValues.{value_data, members_data, members_built}
use Rattle.city_members.proofs.KeptLists.{data_inserted}
use Rattle.city_members.proofs.kept.members_builder.MembersBuilder.with.Goals as goal

pub returns-in_ok-insert-in-Few-2 : goal.returns-in_ok-insert-in-Few-2
returns-in_ok-insert-in-Few-2 c =
    ap members_data c.in_ok-insert-in-Few-2.ensures.entries ∙ data_inserted _ c.args.name c.args.value
    ∙ ap (put (string_bytes c.args.name) (value_data c.args.value))
    (c.in_ok-many-in-Few-2.ensures ∙ ap members_built (sym c.in-Few.is))

pub returns-in_ok-insert-in-Many : goal.returns-in_ok-insert-in-Many
returns-in_ok-insert-in-Many c =
    ap members_data c.in_ok-insert-in-Many.ensures.entries ∙ data_inserted _ c.args.name c.args.value
    ∙ ap (put (string_bytes c.args.name) (value_data c.args.value)) (ap members_built (sym c.in-Many.is))

-- Texts and kept members may go to another thread, and be read from one.
use denote.Param.Send.{IsSend, IsSync, sendable}
use Rattle.std.proofs.Crossing as values
use Rattle.std.proofs.MapsCrossing as maps
use Rattle.serde_json.proofs.value.Value.TheLaws.TheKnot as json
use Rattle.city_members.proofs.kept.few_members.FewMembers.TheLaws.TheKnot as kept
use Rattle.city_trees.proofs.Crossing.{tree_sends, tree_syncs}
use Rattle.city_members.specs.contracts.kept.shared_extra.SharedExtra as SharedExtra
use Rattle.city_members.specs.contracts.kept.shared_members.SharedMembers as SharedMembers
use Rattle.city_members.specs.contracts.text.Text as Text

pub text_sends : IsSend Text.the_field.row
text_sends = search (maps.crosses, values.crosses, sendable) depth 60 fits 20000

pub text_syncs : IsSync Text.the_field.row
text_syncs = search (maps.crosses, values.crosses, sendable) depth 60 fits 20000

-- the kept members of an object
members_sends : IsSend SharedMembers.the_field.row
members_sends = search (tree_sends, values.crosses, kept.crosses, sendable) depth 60 fits 20000

members_syncs : IsSync SharedMembers.the_field.row
members_syncs = search (tree_syncs, values.crosses, kept.crosses, sendable) depth 60 fits 20000

pub extra_sends : IsSend SharedExtra.the_field.row
extra_sends =
    search (members_sends, maps.crosses, values.crosses, json.crosses, kept.crosses, sendable)
    depth 60 fits 20000

pub extra_syncs : IsSync SharedExtra.the_field.row
extra_syncs =
    search (members_syncs, maps.crosses, values.crosses, json.crosses, kept.crosses, sendable)
    depth 60 fits 20000

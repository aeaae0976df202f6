-- Texts, objects, cities and changes may go to another thread, and be read from one.
use denote.Param.Send.{IsSend, IsSync, sendable}
use Rattle.std.proofs.Crossing as values
use Rattle.std.proofs.MapsCrossing as maps
use Rattle.city_trees.proofs.tree.Tree.TheLaws.TheKnot as trees
use Rattle.serde_json.proofs.value.Value.TheLaws.TheKnot as json
use Rattle.city_members.proofs.Crossing.{text_sends, text_syncs, extra_sends, extra_syncs}
use Rattle.city_model.proofs.object.Shape.TheSendSync as shape
use Rattle.city_model.proofs.object_type.ObjectType.TheSendSync as object_type
use Rattle.city_model.proofs.id_tree.Entry.TheSendSync as entry
use Rattle.city_model.specs.contracts.change.Change as Change
use Rattle.city_model.specs.contracts.city.City as City
use Rattle.city_model.specs.contracts.indexed_ids.IndexedIds as IndexedIds
use Rattle.city_model.specs.contracts.object.Body as Body
use Rattle.city_model.specs.contracts.object.Geometry as Geometry
use Rattle.city_model.specs.contracts.object.Object as Object
use Rattle.city_model.specs.contracts.shared_ids.SharedIds as SharedIds

geometry_sends : IsSend Geometry.the_field.row
geometry_sends =
    search (text_sends, shape.the_field_send, maps.crosses, values.crosses, json.crosses, sendable) depth 60 fits 20000

geometry_syncs : IsSync Geometry.the_field.row
geometry_syncs =
    search (text_syncs, shape.the_field_sync, maps.crosses, values.crosses, json.crosses, sendable) depth 60 fits 20000

pub body_sends : IsSend Body.the_field.row
body_sends = search (
  geometry_sends,
  geometry_syncs,
  extra_sends,
  extra_syncs,
  object_type.the_field_send,
  maps.crosses,
  values.crosses,
  json.crosses,
  sendable,
) depth 60 fits 20000

pub body_syncs : IsSync Body.the_field.row
body_syncs = search (
  geometry_sends,
  geometry_syncs,
  extra_sends,
  extra_syncs,
  object_type.the_field_sync,
  maps.crosses,
  values.crosses,
  json.crosses,
  sendable,
) depth 60 fits 20000

indexed_sends : IsSend IndexedIds.the_row
indexed_sends = search (entry.the_send, entry.the_sync, trees.crosses, values.crosses, sendable) depth 60 fits 20000

indexed_syncs : IsSync IndexedIds.the_row
indexed_syncs = search (entry.the_send, entry.the_sync, trees.crosses, values.crosses, sendable) depth 60 fits 20000

ids_sends : IsSend SharedIds.the_field.row
ids_sends =
    search (text_sends, text_syncs, indexed_sends, indexed_syncs, values.crosses, sendable) depth 60 fits 20000

ids_syncs : IsSync SharedIds.the_field.row
ids_syncs =
    search (text_sends, text_syncs, indexed_sends, indexed_syncs, values.crosses, sendable) depth 60 fits 20000

pub object_sends : IsSend Object.the_field.row
object_sends = search (body_sends, body_syncs, ids_sends, values.crosses, sendable) depth 60 fits 20000

pub object_syncs : IsSync Object.the_field.row
object_syncs = search (body_sends, body_syncs, ids_syncs, values.crosses, sendable) depth 60 fits 20000

-- for a city as a field of another struct
pub city_field_sends : IsSend City.the_field.row
city_field_sends =
    search (object_sends, maps.crosses, values.crosses, json.crosses, sendable) depth 60 fits 20000

pub city_field_syncs : IsSync City.the_field.row
city_field_syncs =
    search (text_syncs, object_syncs, maps.crosses, values.crosses, json.crosses, sendable) depth 60 fits 20000

pub change_sends : IsSend Change.the_field.row
change_sends = search (object_sends, maps.crosses, values.crosses, sendable) depth 60 fits 20000

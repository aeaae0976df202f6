-- Parts read or resolved by workers may go to another thread.
use denote.Param.Send.{IsSend, IsSync, recorded_send, sendable}
use denote.Struct.Declared.{field}
use denote.RattleType.{RattleType}
use Rattle.std.proofs.Crossing as values
use Rattle.std.proofs.MapsCrossing as maps
use Rattle.serde_json.proofs.value.Value.TheLaws.TheKnot as json
use Rattle.city_members.proofs.Crossing.{text_sends, text_syncs}
use Rattle.city_model.proofs.Crossing.{body_sends, body_syncs}
use Rattle.city_model.proofs.object.Shape.TheSendSync as shape
use Rattle.city_model.proofs.id_tree.Entry.TheSendSync as entry
use Rattle.city_model.specs.contracts.indexed_ids.IndexedIds as IndexedIds
use Rattle.city_model.specs.contracts.object.Geometry as Geometry
use Rattle.city_model.specs.contracts.script.Script as Script
use Rattle.city_model.specs.contracts.shared_ids.SharedIds as SharedIds
use Rattle.city_trees.proofs.tree.Tree.TheLaws.TheKnot as trees
use Rattle.city_reader.proofs.plain.Place.TheSendSync as place
use Rattle.city_reader.specs.contracts.position.Position as Position
use Rattle.city_tokens.specs.contracts.object.UnresolvedObject as UnresolvedObject
use Rattle.city_texts.specs.contracts.run.Piece as Piece

indexed_sends : IsSend IndexedIds.the_row
indexed_sends = search (entry.the_send, entry.the_sync, trees.crosses, values.crosses, sendable) depth 60 fits 20000

indexed_syncs : IsSync IndexedIds.the_row
indexed_syncs = search (entry.the_send, entry.the_sync, trees.crosses, values.crosses, sendable) depth 60 fits 20000

ids_sends : IsSend SharedIds.the_field.row
ids_sends =
    search (text_sends, text_syncs, indexed_sends, indexed_syncs, values.crosses, sendable) depth 60 fits 20000

pub unresolved_sends : IsSend UnresolvedObject.the_field.row
unresolved_sends =
    search (ids_sends, body_sends, values.crosses, sendable) depth 60 fits 20000

pub position_sends : IsSend Position.the_field.row
position_sends = search (place.the_field_send, sendable) depth 60 fits 20000

-- parts read, if each may
piece_field_sends : (T : RattleType) → IsSend T → IsSend (Piece.the_field T).row
piece_field_sends T s = search (s, position_sends, values.crosses, sendable) depth 60 fits 20000

pub piece_sends : (T : RattleType) → IsSend T → IsSend (Piece.the_row T)
piece_sends T s =
    let P = Piece.the_type T in
    recorded_send (field P).row P.D P.to P.to_one (piece_field_sends T s)

geometry_sends : IsSend Geometry.the_field.row
geometry_sends =
    search (text_sends, shape.the_field_send, maps.crosses, values.crosses, json.crosses, sendable) depth 60 fits 20000

geometry_syncs : IsSync Geometry.the_field.row
geometry_syncs =
    search (text_syncs, shape.the_field_sync, maps.crosses, values.crosses, json.crosses, sendable) depth 60 fits 20000

pub script_sends : IsSend Script.the_field.row
script_sends = search (
  text_sends,
  body_sends,
  body_syncs,
  geometry_sends,
  geometry_syncs,
  maps.crosses,
  values.crosses,
  json.crosses,
  sendable,
) depth 60 fits 20000

-- A desk may cross threads if its shelf may.
use denote.Param.Send.{IsSend, IsSync, recorded_send, sendable, struct_send, view_send}
use denote.RattleType.{RattleType}
use denote.Struct.Declared.{Declared, row, field, shape}
use Rattle.city_members.proofs.Crossing.{text_sends, text_syncs}
use Rattle.city_model.proofs.Crossing.{body_sends, body_syncs, object_sends, city_field_sends}
use Rattle.city_scheduler.specs.declared.shelf.Shelf.{Ghosts}
use Rattle.std.proofs.Crossing as values
use Rattle.std.proofs.MapsCrossing as maps
use Rattle.serde_json.proofs.value.Value.TheLaws.TheKnot as json
use Rattle.city_model.proofs.object.Shape.TheSendSync as shapes
use Rattle.city_model.specs.contracts.object.Geometry as Geometry
use Rattle.city_model.specs.contracts.script.Script as Script
use Rattle.city_txn.specs.contracts.txn_core.Core as Core
use Rattle.city_scheduler.specs.contracts.desk.Desk as Desk
use Rattle.city_scheduler.specs.contracts.desk.Desk.TheInside as DeskInside
use Rattle.city_scheduler.proofs.ghosts.opening_city.OpeningCity.TheSendSync as opening

geometry_sends : IsSend Geometry.the_field.row
geometry_sends =
    search (text_sends, shapes.the_field_send, maps.crosses, values.crosses, json.crosses, sendable) depth 60 fits 20000

geometry_syncs : IsSync Geometry.the_field.row
geometry_syncs =
    search (text_syncs, shapes.the_field_sync, maps.crosses, values.crosses, json.crosses, sendable) depth 60 fits 20000

script_sends : IsSend Script.the_field.row
script_sends = search (
  text_sends,
  body_sends,
  body_syncs,
  geometry_sends,
  geometry_syncs,
  maps.crosses,
  values.crosses,
  json.crosses,
  sendable,
) depth 60 fits 20000

core_sends : IsSend Core.the_field.row
core_sends = search (text_sends, object_sends, city_field_sends, maps.crosses, values.crosses, sendable)
    depth 60 fits 20000

desk_inside_sends : (S N : RattleType) (G : Ghosts S.Denot N.Denot) → IsSend S → IsSend (DeskInside.the_field S N G).row
desk_inside_sends S N G s = struct_send (shape (DeskInside.the_type S N G)) (
  search sendable depth 20,
  (
    opening.the_send,
    (
      search (script_sends, values.crosses, sendable) depth 60 fits 20000,
      (
        search (text_sends, values.crosses, sendable) depth 60 fits 20000,
        (
          search (text_sends, object_sends, values.crosses, sendable) depth 60 fits 20000,
          (
            search (text_sends, object_sends, values.crosses, sendable) depth 60 fits 20000,
            search (core_sends, s, sendable) depth 60 fits 20000,
          ),
        ),
      ),
    ),
  ),
)

-- a struct may cross threads if its fields may
pub declared_sends : (T : Declared) → IsSend (field T).row → IsSend (row T)
declared_sends T s = recorded_send (field T).row T.D T.to T.to_one s

-- the desk as a field of another struct
pub desk_field_sends : (S N : RattleType) (G : Ghosts S.Denot N.Denot) → IsSend S → IsSend (Desk.the_field S N G).row
desk_field_sends S N G s = view_send _ _ _ _ _ (declared_sends (DeskInside.the_type S N G) (desk_inside_sends S N G s))

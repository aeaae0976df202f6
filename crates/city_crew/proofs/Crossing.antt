-- A run's watchers, and the desk under its lock, may cross threads.
use Rattle.city_crew.proofs.Prelude.{IsSend, sendable}
use denote.Param.Send.{enum_send, recorded_send, struct_send, view_send}
use denote.RattleType.{RattleType}
use denote.Struct.Declared.{shape}
use Rattle.std.specs.declared.sync.Wait.{Ghosts}
use Rattle.city_board.proofs.Crossing.{poster_sends, viewer_sends}
use Rattle.city_scheduler.proofs.Crossing.{declared_sends, desk_field_sends}
use denote.Enum.Declared as enums
use Rattle.std.proofs.Crossing as values
use Rattle.city_scheduler.proofs.null_shelf.NullShelf.TheSendSync as null_shelf
use Rattle.city_crew.specs.contracts.crew_shelf.CrewShelf as CrewShelf
use Rattle.city_crew.specs.declared.ghosts.origin.Origin as Origins
use Rattle.city_crew.specs.contracts.crew_desk.CrewDesk as CrewDesk
use Rattle.city_crew.specs.contracts.crew_desk.CrewDesk.TheInside as Inside
use Rattle.city_crew.specs.contracts.watcher.Watcher as Watcher

pub watcher_sends : IsSend Watcher.the_row
watcher_sends = search (viewer_sends, values.crosses, sendable) depth 60 fits 20000

shelf_sends : (R : RattleType) → IsSend R → IsSend (CrewShelf.the_row R)
shelf_sends R s =
    let T = CrewShelf.the_type R in
    recorded_send _ T.D T.to T.to_one
    (enum_send (enums.shape T) ((null_shelf.the_send, tt), ((poster_sends R s, tt), tt)))

inside_sends : (R O : RattleType) (W : Ghosts R.Denot) (N : Origins.Ghosts O.Denot) → IsSend (CrewShelf.the_row R)
    → IsSend (Inside.the_field R O W N).row
inside_sends R O W N shelf = struct_send (shape (Inside.the_type R O W N)) (
  search (shelf, desk_field_sends, sendable) depth 60 fits 20000,
  (
    search sendable depth 20,
    (
      search (values.crosses, sendable) depth 60 fits 20000,
      (
        search (values.crosses, sendable) depth 60 fits 20000,
        (
          search (values.crosses, sendable) depth 60 fits 20000,
          (search sendable depth 20, (search (values.crosses, sendable) depth 60 fits 20000, tt)),
        ),
      ),
    ),
  ),
)

pub crew_desk_sends : (R O : RattleType) (W : Ghosts R.Denot) (N : Origins.Ghosts O.Denot) → IsSend R
    → IsSend (CrewDesk.the_row R O W N)
crew_desk_sends R O W N s =
    view_send _ _ _ _ _ (declared_sends (Inside.the_type R O W N) (inside_sends R O W N (shelf_sends R s)))

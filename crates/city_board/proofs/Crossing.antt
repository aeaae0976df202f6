-- Posters and viewers may cross threads.
use denote.Param.Send.{IsSend, IsSync, sendable, struct_send, view_send}
use denote.RattleType.{RattleType}
use denote.Struct.Declared.{shape}
use Rattle.city_model.proofs.Crossing.{change_sends, city_field_sends, city_field_syncs}
use Rattle.std.below.std_heap.specs.contracts.GlobalAllocator.TheImpl.{ghosts}
use Rattle.city_scheduler.proofs.Crossing.{declared_sends}
use Rattle.std.proofs.Crossing as values
use Rattle.std.below.std_heap.specs.contracts.Global as Heap
use Rattle.std.proofs.option.Option.TheSendSync as option
use Rattle.left_right.specs.contracts.writer.Writer as Writer
use Rattle.left_right.proofs.writer.Writer.TheSendSync as writer
use Rattle.left_right.proofs.reader.Reader.TheSendSync as reader
use Rattle.city_board.proofs.history.History.TheSendSync as history
use Rattle.city_board.proofs.history.Head.TheSendSync as head
use Rattle.city_scheduler.proofs.ghosts.opening_city.OpeningCity.TheSendSync as opening
use Rattle.city_board.specs.contracts.poster.Poster as Poster
use Rattle.city_board.specs.contracts.poster.Poster.TheInside as PosterInside
use Rattle.city_board.specs.contracts.ghosts.board_rule.BoardRule as BoardRule
use Rattle.city_board.specs.contracts.ghosts.board_rule.BoardRuleProtocolVersionKnown.TheImpl as protocol
use Rattle.city_board.specs.contracts.ghosts.board_rule.Known as Known
use Rattle.city_board.specs.contracts.version.VersionAbsorbEdit.TheImpl as absorb
use Rattle.city_board.specs.contracts.version.Edit as Edit
use Rattle.city_board.specs.contracts.version.Version as Version
use Rattle.city_board.specs.contracts.viewer.Viewer as Viewer
use Rattle.city_board.specs.contracts.writer.OwnWriter as OwnWriter

-- ---- versions, edits and viewers

version_sends : IsSend Version.the_row
version_sends =
    search (city_field_sends, opening.the_send, history.the_send, values.crosses, sendable) depth 60 fits 20000

version_syncs : IsSync Version.the_row
version_syncs =
    search (city_field_syncs, opening.the_sync, history.the_sync, values.crosses, sendable) depth 60 fits 20000

edit_sends : IsSend Edit.the_row
edit_sends = search (change_sends, history.the_send, values.crosses, sendable) depth 60 fits 20000

pub viewer_sends : IsSend Viewer.the_row
viewer_sends =
    search (reader.the_field_send, version_syncs, history.the_send, values.frees, values.send, values.sync, sendable)
    depth 60 fits 20000

-- ---- the poster

writer_sends : IsSend
    (Writer.the_field Version.the_row Edit.the_row Known.the_row BoardRule.the_row Heap.the_row Version.the_row
    absorb.ghosts protocol.ghosts ghosts).row
writer_sends =
    search (writer.the_field_send, version_sends, edit_sends, values.send, version_syncs, values.sync, values.frees)

own_sends : (R : RattleType) → IsSend R → IsSend (OwnWriter.the_row R)
own_sends R s = declared_sends (OwnWriter.the_type R) (search (s, writer_sends, sendable) depth 60 fits 20000)

poster_inside_sends : (R : RattleType) → IsSend R → IsSend (PosterInside.the_field R).row
poster_inside_sends R s = struct_send (shape (PosterInside.the_type R)) (
  option.the_field_send (OwnWriter.the_row R) (own_sends R s),
  search (head.the_send, opening.the_send, history.the_send, values.Deque-send, edit_sends, sendable)
      depth 60 fits 20000,
)

pub poster_sends : (R : RattleType) → IsSend R → IsSend (Poster.the_row R)
poster_sends R s = view_send _ _ _ _ _ (declared_sends (PosterInside.the_type R) (poster_inside_sends R s))

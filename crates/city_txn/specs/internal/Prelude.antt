-- Names of the model, the locks and the core, for the crate's own clauses and proofs.
pub use Rattle.std.specs.Map.{update, keys_of}
pub use Rattle.city_model.specs.declared.command.Command.{Command}
pub use Rattle.city_model.specs.declared.command.Reply.{Reply}
pub use Rattle.city_model.specs.declared.command.Reply.TheVariants.{WentBack, Refused}
pub use Rattle.city_model.specs.declared.command.Cause.TheVariants.{NoMark, Orphan}
pub use Rattle.city_model.specs.declared.mode.Mode.TheVariants.{Exclusive}
pub use Rattle.city_model.specs.CityMap.{CityMap, Objects, object_at, has_id}
pub use Rattle.city_model.specs.Marks.{Snapshot, unmarked, marks_from, IsSoundView}
pub use Rattle.city_model.specs.Actions.{Action, Refuses, Edits, Marks, GoesBack, action}
pub use Rattle.city_model.specs.Meaning.{Answers, effect, applied, back, left, step, reply_of, answer, is_refusal}
pub use Rattle.city_model.specs.Meaning.{locks_of}
pub use Rattle.city_model.specs.Relations.{IsLawful, IsSound, HasNoOrphan, IsLeastOrphan}
pub use Rattle.city_model.specs.Runs.{Change}
pub use Rattle.city_model.specs.Scripts.{is_end, is_mark}
pub use Rattle.city_model.specs.Standing.{Lock, Answered, AllHeld, IsTraceUnderLocks, covers, locks_id_exclusively}
pub use Rattle.city_model.specs.Standing.{Held, locks_id}
pub use Rattle.city_locks.specs.declared.answer.Answer.{Answer}
pub use Rattle.city_locks.specs.declared.answer.Answer.TheVariants.{Granted, Wait, Die}
pub use Rattle.city_locks.specs.Locks.{Locks, mode_of, Lawful}
pub use Rattle.city_locks.specs.Asking.{held_in, granted_before, GainsFirst, IsBlocked, HoldsLock, Asked}
pub use Rattle.city_txn.specs.declared.undo_logs.Entry.{Entry}
pub use Rattle.city_txn.specs.declared.txn_core.Step.{Step}
pub use Rattle.city_txn.specs.declared.txn_core.TxnFault.{TxnFault}
pub use Rattle.city_txn.specs.declared.txn_core.TxnFault.TheVariants.{NotOpen, OutOfMemory}
pub use Rattle.city_txn.specs.declared.txn_core.Core.TheInside.{Inside}
pub use Rattle.city_txn.specs.Writes.{write_of, own_write, Write, own_or, is_by, unless_by}
pub use Rattle.city_txn.specs.UndoLog.{Written, log_of, has_before, Logs, OwnWrites, own_with, written_at_mark}
pub use Rattle.city_txn.specs.UndoLog.{written_by}
pub use Rattle.city_txn.specs.UndoLog.{map_with, marks_with, marked}
pub use Rattle.city_txn.specs.CoreState.{CoreState, committed, own, written, snapshot, is_open, held, StandsUnderLocks}
pub use Rattle.city_txn.specs.CoreState.{view, KeepsOthers, IsTransactionEnd, IsRolledBack}
pub use Rattle.city_txn.specs.Acting.{answer_in, granted_in, step_of, is_done, with_step, IsAct}
pub use Rattle.city_txn.specs.Acting.{RefusesCommit}
pub use Rattle.city_txn.specs.Changing.{IsChangeOf, change_in}
pub use Rattle.city_txn.specs.internal.LogTests.{has_mark, view_with}
pub use Rattle.city_txn.specs.internal.State.{State, is_reserved, store_written, Touches, store_own, store_committed}
pub use Rattle.city_txn.specs.internal.State.{store_view, is_begun, Begins, Forgets, MayReserve}

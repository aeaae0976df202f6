-- The words shared by the proofs of this crate: from std, from the libraries and from its own definitions.
pub use Rattle.std.proofs.Common.{Bool, List, None, Ok, Option, Result, Some, [], ap, arith, false, get_or}
pub use Rattle.std.proofs.Common.{if◌then◌else◌, is_some, length, refl, rules, subst, sym, take, tests, true}
pub use Rattle.std.proofs.Common.{unwrap_or, ℕ, ◌&&◌, ◌++◌, ◌+◌, ◌<◌, ◌==◌, ◌||◌, ◌∙◌, ◌∷◌, ◌≡◌}
pub use Rattle.std.proofs.lemmas.Bool.{eq-eqb, false≢true}
pub use Rattle.std.proofs.lemmas.List.Folds.{list_any-append}
pub use Rattle.std.proofs.lemmas.Map.Made.{is_some-lookup}
pub use Rattle.std.specs.BTreeMap.{is_at}
pub use Rattle.std.specs.Cmp.Lexicographic.{slice_cmp}
pub use Rattle.std.specs.List.{list_any}
pub use Rattle.std.specs.List.Sorted.{IsStrictlySortedBy}
pub use Rattle.std.specs.Map.{keys_of}
pub use Rattle.std.specs.Ordering.{nat_cmp}
pub use Rattle.city_locks.proofs.Ids.{has_id_more}
pub use Rattle.city_members.proofs.Ids.{bool_cases, same_id_back, same_id_itself, same_id_true}
pub use Rattle.city_model.proofs.MarksKept.{from_mapped}
pub use Rattle.city_model.proofs.Refused.{refused_stays}
pub use Rattle.city_model.specs.CityMap.{has_id, object_at, same_id}
pub use Rattle.city_model.specs.Relations.{is_orphan_there}
pub use Rattle.city_model.specs.Runs.{Change}
pub use Rattle.city_model.specs.Writing.{write_in}
pub use Rattle.city_model.specs.declared.object.Object.{Object}
pub use Rattle.city_model.specs.internal.Plans.{AreOf}
pub use Rattle.city_txn.specs.UndoLog.{Logs, log_of, marked}
pub use Rattle.city_txn.specs.Writes.{Write, is_by, own_or, own_write, unless_by, write_of}
pub use Rattle.city_txn.specs.declared.undo_image.UndoImage.{UndoImage}
pub use Rattle.city_txn.specs.declared.store.Store.TheInside.{Inside}
pub use Rattle.city_txn.specs.declared.undo_logs.Entry.{Entry}
pub use Rattle.city_txn.specs.declared.undo_logs.Entry.TheVariants.{BeforeImage}
pub use Rattle.city_txn.specs.internal.Core.{IsConsistent, IsCore, IsWrittenUnder, Kept, core_state}
pub use Rattle.city_txn.specs.internal.Ending.{left_at_end}
pub use Rattle.city_txn.specs.internal.Images.{committed_at, write_at, writer_of}
pub use Rattle.city_txn.specs.internal.InPlace.{IsInPlace, is_writer, state_of}
pub use Rattle.city_txn.specs.internal.LogTests.{has_mark, is_noted}
pub use Rattle.city_txn.specs.internal.Performing.{IsPerform, plans}
pub use Rattle.city_txn.specs.internal.Prelude.{Answered, CityMap, Command, CoreState, Exclusive, IsChangeOf, IsLawful}
pub use Rattle.city_txn.specs.internal.Prelude.{IsSound, IsTraceUnderLocks, Lock, Locks, OwnWrites, Reply}
pub use Rattle.city_txn.specs.internal.Prelude.{StandsUnderLocks, Snapshot, WentBack, Written, action, answer}
pub use Rattle.city_txn.specs.internal.Prelude.{committed, covers}
pub use Rattle.city_txn.specs.internal.Prelude.{held, is_open, locks_id_exclusively, locks_of, map_with}
pub use Rattle.city_txn.specs.internal.Prelude.{marks_from, marks_with, mode_of, own_with, snapshot, step, unmarked}
pub use Rattle.city_txn.specs.internal.Prelude.{view, view_with, written, written_at_mark, written_by}
pub use Rattle.city_txn.specs.internal.Reserved.{Became}
pub use Rattle.city_txn.specs.internal.State.{ChangesWrites, MayReserve, OthersWritesStay, State, Touches, is_reserved}
pub use Rattle.city_txn.specs.internal.State.{store_committed, store_own, store_view, store_written, written_with}
pub use Rattle.city_txn.specs.internal.Transactions.{image_at, reservations_of}

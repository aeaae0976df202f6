-- The shared names of this crate's proofs, from std, the libraries and its own definitions.
pub use Rattle.std.proofs.Common.{Bool, Err, List, Ok, Option, Result, Some, [], ap, append-nil, arith, cond, false}
pub use Rattle.std.proofs.Common.{length, length-append, refl, subst, suc, sym, take, true, zero, ℕ, ◌++◌, ◌+◌, ◌<◌}
pub use Rattle.std.proofs.Common.{◌∙◌, ◌∷◌, ◌≡◌, ◌≢◌, ◌≤◌}
pub use Rattle.std.proofs.lemmas.Bool.{cases_eq, false≢true}
pub use Rattle.std.proofs.lemmas.List.{get_or-set_same}
pub use Rattle.std.proofs.lemmas.List.Sums.{count_by-le-length}
pub use Rattle.std.proofs.lemmas.Option.{slice_get_read, slice_get_within}
pub use Rattle.std.specs.Prelude.{IfSome, MatchOption, option_and_then, slice_get, slice_index_or, slice_set}
pub use Rattle.city_locks.specs.declared.answer.Answer.{Answer}
pub use Rattle.city_model.proofs.Writing.{shown_more}
pub use Rattle.city_model.specs.CityMap.{CityMap, CityValue, object_at}
pub use Rattle.city_model.specs.Meaning.{is_refusal}
pub use Rattle.city_model.specs.Relations.{IsLawful}
pub use Rattle.city_model.specs.Runs.{Change, IsScriptResult, Scripted, after_changes, has_end, map_left, model_after}
pub use Rattle.city_model.specs.Scripts.{AreScripts, ends_once, is_end}
pub use Rattle.city_model.specs.SerialEnds.{commits_in, is_commit, is_no_memory}
pub use Rattle.city_model.specs.Standing.{answered}
pub use Rattle.city_model.specs.declared.command.Command.{Command}
pub use Rattle.city_model.specs.declared.command.Reply.{Reply}
pub use Rattle.city_model.specs.declared.end.End.{End}
pub use Rattle.city_model.specs.declared.end.Outcome.{Outcome}
pub use Rattle.city_txn.specs.Acting.{answer_in}
pub use Rattle.city_txn.specs.CoreState.{CoreState, IsRolledBack, KeepsOthers, StandsUnderLocks, committed, is_open}
pub use Rattle.city_txn.specs.CoreState.{snapshot, view}
pub use Rattle.city_txn.specs.declared.txn_core.TxnFault.{TxnFault}
pub use Rattle.city_scheduler.specs.DeskState.{DeskState, ended_progress, is_ended, is_open_phase, phase_in, phase_of}
pub use Rattle.city_scheduler.specs.DeskState.{progress_to, replies_of, room_of, stamp_of}
pub use Rattle.city_scheduler.specs.InTurn.{AreInTurn}
pub use Rattle.city_scheduler.specs.Opening.{unbegun_each}
pub use Rattle.city_scheduler.specs.Serial.{AreStanding, IsSerial, StandsAs}
pub use Rattle.city_scheduler.specs.Turning.{IsDue, end_of}
pub use Rattle.city_scheduler.specs.declared.attempt.CommandOutcome.{CommandOutcome}
pub use Rattle.city_scheduler.specs.declared.progress.Phase.{Phase}
pub use Rattle.city_scheduler.specs.declared.progress.Phase.TheVariants.{Ended, Idle, NotBegun, Open}
pub use Rattle.city_scheduler.specs.declared.progress.Progress.{Progress}
pub use Rattle.city_scheduler.specs.declared.turn.Turn.{Turn}
pub use Rattle.city_scheduler.specs.internal.Attempt.{AttemptEnded, HasStepped, Publishes}
pub use Rattle.city_scheduler.specs.internal.Closing.{KeepsCity}
pub use Rattle.city_scheduler.specs.internal.Ready.{IsYoungestBelow}
pub use Rattle.city_scheduler.specs.internal.Room.{HasRoom, ended_in, is_not_begun, names_of}
pub use Rattle.city_scheduler.specs.internal.RunInTurn.{HaveRun}
pub use Rattle.city_scheduler.specs.internal.ScriptParts.{commands_at, commands_of}

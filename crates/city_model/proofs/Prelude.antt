-- The words shared by the proofs of this crate: from std, from the libraries and from its own definitions.
pub use Rattle.std.proofs.Common.{Bool, Equal, Less, List, None, Option, Ordering, Some, [], ap, append_assoc, arith}
pub use Rattle.std.proofs.Common.{cond, drop, drop-cons, false, get_or, inl, length, map, not, refl, rules}
pub use Rattle.std.proofs.Common.{subst, suc, sym, take, true, ℕ, ◌++◌, ◌+◌, ◌-◌, ◌<◌, ◌||◌, ◌∙◌, ◌∷◌, ◌≡◌, ◌≤◌}
pub use Rattle.std.proofs.lemmas.Bool.{and_from, and_parts, false≢true, or_parts}
pub use Rattle.std.proofs.lemmas.Cmp.{nat_list_cmp_total}
pub use Rattle.std.proofs.lemmas.List.{append-nil}
pub use Rattle.std.proofs.lemmas.List.Elements.{filter-append}
pub use Rattle.std.proofs.lemmas.List.Folds.{list_any-append}
pub use Rattle.std.proofs.lemmas.Map.{lookup-none}
pub use Rattle.std.proofs.lemmas.Map.Keys.{IsDistinct-from_sorted}
pub use Rattle.std.proofs.lemmas.Map.Lookups.{exact_bytes}
pub use Rattle.std.specs.BTreeMap.{is_at}
pub use Rattle.std.specs.Bool.{Decides}
pub use Rattle.std.specs.Cmp.{IsTotalOrder, eq_by_cmp_equiv}
pub use Rattle.std.specs.Cmp.Lexicographic.{slice_cmp}
pub use Rattle.std.specs.FinMap.{entries, find, is_sorted}
pub use Rattle.std.specs.List.{AllAdjacentBelow, AllByRecursion, list_all, list_any, zip}
pub use Rattle.std.specs.List.Sorted.{IsPermutation, IsSorted, IsStrictlySortedBy}
pub use Rattle.std.specs.Map.{keys_of, lookup}
pub use Rattle.std.specs.Ordering.{eq_by_cmp, is_eq, is_lt, nat_cmp}
pub use Rattle.std.specs.Prelude.{T, codes, if◌then◌else◌, is_some, option_map, slice_get, ◌==◌}
pub use Rattle.serde_json.specs.Data.{member, no_members}
pub use Rattle.city_model.specs.Actions.{Action, Edits, GoesBack, Marks, Refuses, action, attached, deleted, detached}
pub use Rattle.city_model.specs.Actions.{is_wrong_family, new_object, with_child, with_parent, without_child}
pub use Rattle.city_model.specs.Actions.{without_id, without_parent}
pub use Rattle.city_model.specs.Amendments.{Amendment, amended, amendment_fault}
pub use Rattle.city_model.specs.Chunks.{ids_left}
pub use Rattle.city_model.specs.CityMap.{CityMap, Entries, Objects, changed, children_of, found_in, has_id, object_at}
pub use Rattle.city_model.specs.CityMap.{parents_of, same_id}
pub use Rattle.city_model.specs.FrameLaw.{AgreeOn}
pub use Rattle.city_model.specs.Least.{IsLeast}
pub use Rattle.city_model.specs.Marks.{IsSoundView, Marked, Snapshot, marks_from, unmarked}
pub use Rattle.city_model.specs.Meaning.{Answers, Does, Effect, GoesOn, IsReply, answer, applied, effect, exclusively}
pub use Rattle.city_model.specs.Meaning.{is_refusal, left, locks_of, step}
pub use Rattle.city_model.specs.Relations.{AreDistinct, HasNoOrphan, IsLawful, IsLeastOrphan, IsOrphanAt, IsSound}
pub use Rattle.city_model.specs.Relations.{is_orphan, is_orphan_there, same_family}
pub use Rattle.city_model.specs.Runs.{Change, EndsAt, EndsFrom, IsEndOf, IsScriptResult, IsSerialHistory}
pub use Rattle.city_model.specs.Runs.{IsSerialHistoryFrom, Scripted, Trace, after_change, left_by, map_left}
pub use Rattle.city_model.specs.Runs.{model_after, view_at_end}
pub use Rattle.city_model.specs.Scripts.{ends_once, is_end}
pub use Rattle.city_model.specs.Shells.{Edge, Surface, body_fault, edges_of, flipped, is_open_shell, occurs_once}
pub use Rattle.city_model.specs.Shells.{ring_edges, times}
pub use Rattle.city_model.specs.Standing.{AllHeld, Answered, Held, IsTraceUnderLocks, Lock, answered, covers, locks_id}
pub use Rattle.city_model.specs.Standing.{locks_id_exclusively}
pub use Rattle.city_model.specs.Types.{first_named}
pub use Rattle.city_model.specs.declared.command.Cause.{Cause}
pub use Rattle.city_model.specs.declared.command.Cause.TheVariants.{NoMark, Orphan}
pub use Rattle.city_model.specs.declared.command.Command.{Command}
pub use Rattle.city_model.specs.declared.command.Command.TheVariants.{Abort, Attach, Back, Commit, Delete, Detach, Mark}
pub use Rattle.city_model.specs.declared.command.Command.TheVariants.{Put, Read}
pub use Rattle.city_model.specs.declared.command.Reply.{Reply}
pub use Rattle.city_model.specs.declared.command.Reply.TheVariants.{Aborted, Added, Attached, Committed, Deleted}
pub use Rattle.city_model.specs.declared.command.Reply.TheVariants.{Detached, Refused, WentBack}
pub use Rattle.city_model.specs.declared.end.End.{End}
pub use Rattle.city_model.specs.declared.end.Outcome.{Outcome}
pub use Rattle.city_model.specs.declared.mode.Mode.{Mode}
pub use Rattle.city_model.specs.declared.mode.Mode.TheVariants.{Exclusive}
pub use Rattle.city_model.specs.declared.object.Body.{Body}
pub use Rattle.city_model.specs.declared.object.Object.{Object}
pub use Rattle.city_model.specs.declared.object.Point.{Point}
pub use Rattle.city_model.specs.declared.object.Shape.{Shape}
pub use Rattle.city_model.specs.declared.object_type.ObjectType.{ObjectType}
pub use Rattle.city_model.specs.declared.object_type.ObjectType.TheVariants.{Bridge, Building, BuildingPart, LandUse}
pub use Rattle.city_model.specs.declared.object_type.ObjectType.TheVariants.{Road}
pub use Rattle.city_model.specs.internal.Plans.{unlinked}
pub use Rattle.city_model.specs.internal.RelationTests.{are_distinct, are_increasing, are_increasing_from}
pub use Rattle.city_model.specs.internal.RelationTests.{is_misrelated, parent_fits}
pub use Rattle.city_model.specs.internal.RingFaults.{is_faulty}
pub use Rattle.city_model.specs.internal.RisingEdges.{rising}

-- The shared names of this crate's proofs, from std, the libraries and its own definitions.
pub use Rattle.std.proofs.Common.{All, Bool, List, None, Option, Some, [], ap, append_assoc, arith, drop, false, fold}
pub use Rattle.std.proofs.Common.{is_some, length, length-append, not, refl, rules, subst, sym, take, true, ℕ, ◌&&◌}
pub use Rattle.std.proofs.Common.{◌++◌, ◌<◌, ◌||◌, ◌∙◌, ◌∷◌, ◌≡◌, ◌≤◌}
pub use Rattle.std.proofs.lemmas.List.{append-nil}
pub use Rattle.std.specs.Map.{keys_of}
pub use Rattle.std.specs.Prelude.{if◌then◌else◌}
pub use mathlib.Core.List.{IsPrefix}
pub use Rattle.left_right.specs.Sides.{view}
pub use Rattle.city_locks.proofs.Ids.{has_id_more}
pub use Rattle.city_model.proofs.Changed.{changed_apart, changed_there}
pub use Rattle.city_members.proofs.Ids.{same_id_back}
pub use Rattle.city_model.proofs.Writing.{at_after, same_map, shown_more}
pub use Rattle.city_model.specs.CityMap.{CityMap, CityValue, changed, has_id, object_at, same_id}
pub use Rattle.city_model.specs.Relations.{IsLawful}
pub use Rattle.city_model.specs.Runs.{Change, after_change, after_changes}
pub use Rattle.city_board.specs.HistoryValue.{HistoryValue, history_of}
pub use Rattle.city_board.specs.declared.ghosts.board_rule.Known.{Known}
pub use Rattle.city_board.specs.declared.version.Edit.{Edit}
pub use Rattle.city_board.specs.declared.version.Version.{Version}
pub use Rattle.city_board.specs.internal.BoardRule.{HoldsEdits, IsLater, known_from}
pub use Rattle.city_board.specs.internal.Versions.{IsFaithful, IsNextEdit, edited}

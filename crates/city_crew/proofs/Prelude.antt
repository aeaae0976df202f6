-- The shared names of this crate's proofs, from std, the libraries and its own definitions.
pub use Rattle.std.proofs.Common.{All, Bool, List, Option, [], ap, arith, false, length, length-append, refl, rules}
pub use Rattle.std.proofs.Common.{subst, sym, take, true, ℕ, ◌++◌, ◌<◌, ◌∙◌, ◌∷◌, ◌≡◌, ◌≤◌}
pub use mathlib.Core.List.{IsPrefix}
pub use denote.Param.Send.{IsSend, sendable}
pub use Rattle.city_desk.specs.TextRuns.{IsReadFrom}
pub use Rattle.city_writer.specs.document.Canonical.{city_text}
pub use Rattle.city_writer.specs.report.Reports.{report_text}
pub use Rattle.city_model.specs.CityMap.{CityMap, CityValue, object_at}
pub use Rattle.city_model.specs.Runs.{Change, after_changes}
pub use Rattle.city_model.specs.declared.end.End.{End}
pub use Rattle.city_crew.specs.Rising.{Rises, last_of}

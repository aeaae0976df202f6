-- The shared names of this crate's proofs, from std, the libraries and its own definitions.
pub use Rattle.std.proofs.Common.{Err, List, Ok, Result, [], ap, append-nil, length, refl, subst, sym, true, ℕ, ◌++◌}
pub use Rattle.std.proofs.Common.{◌+◌, ◌∙◌, ◌∷◌, ◌≡◌}
pub use Rattle.city_writer.specs.document.Canonical.{city_text}
pub use Rattle.city_writer.specs.report.Reports.{report_text}
pub use Rattle.city_model.specs.CityMap.{CityValue, object_at}
pub use Rattle.city_model.specs.Runs.{Scripted}
pub use Rattle.city_model.specs.SerialEnds.{is_no_memory}
pub use Rattle.city_model.specs.declared.end.End.{End}
pub use Rattle.city_scheduler.specs.InTurn.{AreInTurn}

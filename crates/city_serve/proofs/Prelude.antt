-- Shared names of this crate's proofs, from std, from the libraries and from its own definitions.
pub use Rattle.std.proofs.Common.{Bool, IfSome, List, None, Option, Some, [], ap, append-nil, append_assoc, ap₂, arith}
pub use Rattle.std.proofs.Common.{cond, drop, false, inl, inr, is_some, length, length-drop, nat_lt, refl, subst, sym}
pub use Rattle.std.proofs.Common.{take, true, ℕ, ◌++◌, ◌+◌, ◌-◌, ◌<◌, ◌∙◌, ◌∷◌, ◌≡◌, ◌≤◌, ◌⊎◌}
pub use Rattle.std.proofs.lemmas.Bool.Decides.{nat_tests}
pub use Rattle.std.proofs.lemmas.List.{length-take, take_all}
pub use Rattle.std.proofs.lemmas.Result.{IfErr-weaker, IfOk-weaker}
pub use Rattle.std.specs.Global.{Vec}
pub use Rattle.std.specs.Io.KnownBytes.{Appends, Consumes, Keeps}
pub use Rattle.std.specs.List.{position_or_len}
pub use Rattle.std.specs.Prelude.{if◌then◌else◌, option_and_then, ◌≢◌}
pub use Rattle.city_decimals.specs.Lines.{AreDecodedLines}
pub use Rattle.city_model.specs.declared.end.End.{End}
pub use Rattle.city_serve.specs.Decimals.{faults_by, written_by}
pub use Rattle.city_serve.specs.Served.{document_part, is_newline}
pub use Rattle.city_serve.specs.ServedTexts.{AppendsSome, AreServedBy}
pub use Rattle.city_serve.specs.declared.fault.ServeFault.{ServeFault}

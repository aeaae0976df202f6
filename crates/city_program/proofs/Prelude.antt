-- Shared names of this crate's proofs, from std, from the libraries and from its own definitions.
pub use Rattle.std.proofs.Common.{Bool, IfSome, List, None, Option, Some, [], ap, append-nil, append_assoc, drop, false}
pub use Rattle.std.proofs.Common.{inl, inr, length, map, refl, string_bytes, subst, sym, true, ℕ, ◌++◌, ◌+◌, ◌<◌, ◌∙◌}
pub use Rattle.std.proofs.Common.{◌∷◌, ◌≡◌, ◌≤◌}
pub use Rattle.std.specs.Global.{Vec}
pub use Rattle.std.specs.Io.KnownBytes.{Appends, Keeps}
pub use Rattle.city_program.specs.Programs.{EndsAsked}
pub use Rattle.city_program.specs.SeenTexts.{seen_text}
pub use Rattle.city_options.specs.declared.command_line.Asked.{Asked}
pub use Rattle.city_serve.specs.declared.fault.ServeFault.{ServeFault}
pub use Rattle.city_program.specs.internal.Telling.{IsSeenTold}

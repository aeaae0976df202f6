-- The shared names of this crate's proofs.
pub use Rattle.std.proofs.Common.{Bool, List, None, Option, Some, [], ap, arith, cond, false, length, map, refl, rules}
pub use Rattle.std.proofs.Common.{subst, suc, sym, true, zero, ℕ, ℤ, ◌++◌, ◌+◌, ◌<◌, ◌∙◌, ◌∷◌, ◌≡◌, ◌≤◌, ◌⊎◌, inl, inr}
pub use Rattle.std.proofs.Common.{append-nil, append_assoc, get_or, negsuc, not, pos, true≢false}
pub use Rattle.std.proofs.Common.{Equal, Greater, Less, Ordering, nat_cmp, string_bytes}
pub use Rattle.std.proofs.lemmas.Bool.{and_from, and_parts}
pub use Rattle.std.proofs.lemmas.List.Folds.{list_all-append}
pub use Rattle.std.proofs.lemmas.Result.{IfOk-weaker}
pub use Rattle.std.specs.Cmp.Lexicographic.{slice_cmp}
pub use Rattle.std.specs.List.{list_all}
pub use Rattle.std.specs.Ordering.{match_ordering}
pub use Rattle.std.specs.Prelude.{codes, take, ◌==◌, ◌&&◌, nat_lt, slice_get}
pub use Rattle.serde_json.proofs.Views.{get_member-put, members_view-insert_entry, view-Array, view-Object}
pub use Rattle.serde_json.specs.Data.{Data, Items, Members, array, boolean, item, member, no_items, no_members, null}
pub use Rattle.serde_json.specs.Data.{Num, float, negative, number, object, put, string, unsigned}
pub use Rattle.serde_json.specs.Find.{get, get_member}
pub use Rattle.serde_json.specs.View.{items_of, items_view, members_view, view}
pub use Rattle.serde_json.specs.Written.{comma_if, compact_text, has_float, items_have_float, items_text}
pub use Rattle.serde_json.specs.Written.{members_have_float, members_text, number_text}
pub use Rattle.city_model.specs.CityMap.{same_id}
pub use Rattle.city_members.specs.Members.{AreOrdered}
pub use Rattle.city_tokens.proofs.Laws.{get_member-put_apart}
pub use Rattle.city_doc.specs.declared.fault.ReadFault.{ReadFault}
pub use Rattle.city_doc.specs.declared.fault.ReadFault.TheVariants.{BadGeometry, BadRing, BadVertex, NotCityJson}
pub use Rattle.city_doc.specs.declared.fault.ReadFault.TheVariants.{NotJson, NotWhole, OpenShell, OutOfMemory}
pub use Rattle.city_doc.specs.declared.fault.ReadFault.TheVariants.{Relations, TooLong, UnknownType, Unsupported}
pub use Rattle.city_doc.specs.document.Faults.{rank_of}
pub use Rattle.city_diagnostics.specs.Lines.{AreLinesOf, FirstLineIs, HasText, IsLineOf, IsLineOfMembers}
pub use Rattle.city_diagnostics.specs.Lines.{TellsFault, is_one_line}
pub use Rattle.city_diagnostics.specs.ModelLines.{Tells, TellsNamed, name_of}

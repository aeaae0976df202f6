-- The words that proofs of this crate share.
pub use Rattle.std.proofs.Common.{List, Some, [], ap, arith, false, length, map, refl, rules, subst, sym, ℕ, ℤ, ◌++◌, ◌+◌}
pub use Rattle.std.proofs.Common.{◌∙◌, ◌∷◌}
pub use Rattle.std.proofs.Common.{◌≡◌, ◌≤◌, negsuc, pos, Equal, Greater, Less, Ordering, nat_cmp, string_bytes}
pub use Rattle.std.specs.Cmp.Lexicographic.{slice_cmp}
pub use Rattle.std.specs.Ordering.{match_ordering}
pub use Rattle.std.specs.Prelude.{codes}
pub use Rattle.serde_json.proofs.Views.{get_member-put, members_view-insert_entry, view-Object}
pub use Rattle.serde_json.specs.Data.{Data, Members, member, no_members, number, object, put, string}
pub use Rattle.serde_json.specs.Find.{get}
pub use Rattle.serde_json.specs.View.{items_of, members_view, view}
pub use Rattle.serde_json.specs.Written.{compact_text, has_float, items_have_float, members_have_float}
pub use Rattle.city_tokens.proofs.Laws.{get_member-put_apart}

-- The words shared by the proofs of this crate: from std, from the libraries and from its own definitions.
pub use Rattle.std.proofs.Common.{Bool, Equal, Less, List, None, Option, Ordering, Some, [], ap, arith, drop, false}
pub use Rattle.std.proofs.Common.{get_or, length, map, not, refl, rules, string_bytes, subst, suc, sym, take, true, ℕ}
pub use Rattle.std.proofs.Common.{◌++◌, ◌+◌, ◌-◌, ◌<◌, ◌||◌, ◌∙◌, ◌∷◌, ◌≡◌, ◌≤◌}
pub use Rattle.std.proofs.lemmas.Bool.{and_from, and_parts, false≢true}
pub use Rattle.std.proofs.lemmas.Cmp.{nat_list_cmp_total}
pub use Rattle.std.proofs.lemmas.List.{append-nil}
pub use Rattle.std.proofs.lemmas.Map.Lookups.{exact_bytes}
pub use Rattle.std.specs.Arc.{arc_value}
pub use Rattle.std.specs.BTreeMap.{is_at}
pub use Rattle.std.specs.Cmp.Lexicographic.{slice_cmp}
pub use Rattle.std.specs.List.{AllByRecursion, AllZip}
pub use Rattle.std.specs.Map.{keys_of, lookup}
pub use Rattle.std.specs.Ordering.{is_eq, is_lt, nat_cmp}
pub use Rattle.std.specs.Prelude.{codes, if◌then◌else◌, option_map, ◌==◌}
pub use Rattle.serde_json.proofs.Views.{view-lookup}
pub use Rattle.serde_json.specs.Data.{member, no_members}
pub use Rattle.serde_json.specs.View.{items_view, members_view}
pub use Rattle.city_members.specs.Ids.{has_id, same_id}
pub use Rattle.city_members.specs.Integral.{members_integral}

-- Words shared by the proofs of this crate, from std, from the libraries and from its own definitions.
pub use Rattle.std.proofs.Common.{Bool, Equal, Less, List, None, Option, Ordering, Result, Some, [], add-one, ap}
pub use Rattle.std.proofs.Common.{append-nil, append_assoc, ap₂, arith, drop, drop-cons, false, get_or, length, map}
pub use Rattle.std.proofs.Common.{max, nat_cmp, not, pos, refl, rules, subst, suc, sym, to_z-of_z, true, zero, ℕ, ℤ}
pub use Rattle.std.proofs.Common.{◌++◌, ◌+◌, ◌<◌, ◌∙◌, ◌∷◌, ◌≡◌, ◌≤◌}
pub use Rattle.std.proofs.lemmas.Bool.{and_parts, ltb-true}
pub use Rattle.std.proofs.lemmas.Bool.Decides.{Decides-int_eq}
pub use Rattle.std.proofs.lemmas.Cmp.{nat_list_cmp_total}
pub use Rattle.std.proofs.lemmas.List.{drop_all}
pub use Rattle.std.proofs.lemmas.List.Folds.{list_all-append}
pub use Rattle.std.proofs.lemmas.List.Sums.{prefix_len-le-length}
pub use Rattle.std.proofs.lemmas.Result.{on_ok_weaker}
pub use Rattle.std.specs.Cmp.Lexicographic.{slice_cmp}
pub use Rattle.std.specs.FinMap.{entries}
pub use Rattle.std.specs.Int.{w64}
pub use Rattle.std.specs.List.{AllByRecursion, list_all, list_any}
pub use Rattle.std.specs.Map.{keys_of}
pub use Rattle.std.specs.Ordering.{match_ordering}
pub use Rattle.std.specs.Prelude.{FitsSigned, filter, flat_map, is_some, option_and_then, option_map, slice_get, ◌&&◌}
pub use Rattle.std.specs.Vec.Iter.{into_iter_items}
pub use mathlib.Core.Path.{fun_ext}
pub use Rattle.json.specs.Token.{Token, begin_object, end_object, key}
pub use Rattle.serde_json.proofs.Texts.{print-outline}
pub use Rattle.serde_json.proofs.Views.{view-Array, view-Object}
pub use Rattle.serde_json.specs.Data.{Data, Items, Members, array, depth, item, items_depth, member, members_depth}
pub use Rattle.serde_json.specs.Data.{no_items, no_members, number, object, put, string}
pub use Rattle.serde_json.specs.Find.{as_i64, get_member, of_integer}
pub use Rattle.serde_json.specs.Read.{max_depth, of_items, of_json, of_members, read}
pub use Rattle.serde_json.specs.View.{items_of, items_view, members_view}
pub use Rattle.city_members.proofs.MemberLaws.{ordered_members}
pub use Rattle.city_model.proofs.Objects.{entries_ascend}
pub use Rattle.city_model.specs.Chunks.{ids_left}
pub use Rattle.city_model.specs.CityMap.{CityValue, Entries}
pub use Rattle.city_members.specs.Integral.{items_integral, members_integral}
pub use Rattle.city_members.specs.Kept.{is_empty_object_or_absent, kept_at_geometry, kept_at_object, kept_at_top}
pub use Rattle.city_members.specs.Kept.{kept_at_transform, lacks_each, top_members}
pub use Rattle.city_members.specs.Members.{AllAbove, AreOrdered}
pub use Rattle.city_model.specs.Shells.{same_point}
pub use Rattle.city_model.specs.Types.{name_of}
pub use Rattle.city_model.specs.declared.frame.Frame.{Frame}
pub use Rattle.city_model.specs.declared.object.Body.{Body}
pub use Rattle.city_model.specs.declared.object.Geometry.{Geometry}
pub use Rattle.city_model.specs.declared.object.Object.{Object}
pub use Rattle.city_model.specs.declared.object.Point.{Point}
pub use Rattle.city_model.specs.declared.object.Shape.{Shape}
pub use Rattle.city_members.proofs.Puts.{all_put, ordered_put}
pub use Rattle.city_model.specs.Nesting.{Nested, nested, shape_name}
pub use Rattle.city_writer.specs.tree.Lists.{list_data, put_list, triple_data}
pub use Rattle.city_writer.specs.Pool.{city_points, number_of, object_points, pool_of, with_point, without_repeats}
pub use Rattle.city_writer.specs.document.Canonical.{numbered_tree, transform_data, tree_of}
pub use Rattle.city_writer.specs.document.Ranges.{IsInRange}
pub use Rattle.city_writer.specs.internal.Pool.{is_new, new_points, with_points}
pub use Rattle.city_writer.specs.internal.document.KeptMembers.{IsKeptCity, are_kept_objects}
pub use Rattle.city_writer.specs.internal.tree.PartTokens.{closing_items, closing_members, listed, tokens_of_members}
pub use Rattle.city_writer.specs.internal.tree.PartTokens.{tokens_of_own}
pub use Rattle.city_writer.specs.internal.tree.Parted.{members_before, members_from}
pub use Rattle.city_writer.specs.internal.tree.ReadsBack.{ItemsReadBack, MembersReadBack, ReadsBack}
pub use Rattle.city_writer.specs.object.Canonical.{object_data, objects_data, with_objects}
pub use Rattle.city_writer.specs.report.Replies.{reply_data}
pub use Rattle.city_writer.specs.shape.Canonical.{boundaries_data, geometry_data}
pub use Rattle.city_writer.specs.shape.Vertices.{is_i64_point, vertex_data, vertices_data}
pub use Rattle.city_writer.specs.tree.Tokens.{tokens_of}

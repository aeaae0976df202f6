-- The shared names of this crate's proofs, from std, the libraries and its own definitions.
pub use Rattle.std.proofs.Common.{Bool, List, None, Option, Some, [], ap, arith, codes, cond, false, length, nat_cmp}
pub use Rattle.std.proofs.Common.{refl, subst, suc, sym, true, zero, ℕ, ℤ, ◌<◌, ◌∙◌, ◌∷◌, ◌≡◌}
pub use Rattle.std.proofs.lemmas.Bool.{and_parts}
pub use Rattle.std.proofs.lemmas.List.Elements.{All-cons, All-nil, All-weaker}
pub use Rattle.std.proofs.lemmas.List.Folds.{list_all-append}
pub use Rattle.std.proofs.lemmas.Map.Text.{is_eq-slice_cmp}
pub use Rattle.std.proofs.lemmas.Slice.Eq.{bytes_eq-Decides}
pub use Rattle.std.specs.Cmp.Lexicographic.{slice_cmp}
pub use Rattle.std.specs.List.{All, AllByRecursion}
pub use Rattle.std.specs.Prelude.{flat_map, map, option_and_then, option_map, slice_get, ◌&&◌, ◌^◌}
pub use Rattle.std.specs.Str.{bytes_eq}
pub use Rattle.json.proofs.Found.{Some_inj, not_found}
pub use Rattle.json.specs.Tree.{HasNumbers, ItemsHaveNumbers, MembersHaveNumbers}
pub use Rattle.serde_json.proofs.Numbers.{number_of-decimal}
pub use Rattle.serde_json.specs.Data.{Data, Items, Members, array, item, member, no_items, no_members, object, put}
pub use Rattle.serde_json.specs.Data.{string}
pub use Rattle.serde_json.specs.Find.{as_array, as_str, get_member}
pub use Rattle.serde_json.specs.Read.{of_items, of_json, of_members}
pub use Rattle.serde_json.specs.View.{items_of}
pub use Rattle.serde_json.specs.Written.{items_outline, members_outline, outline}
pub use Rattle.city_decimals.proofs.Wholes.{bound, mapped}
pub use Rattle.city_decimals.specs.Arranged.{arranged}
pub use Rattle.city_decimals.specs.Decoded.{decoded, decoded_items, decoded_members, decoded_top, number_in}
pub use Rattle.city_decimals.specs.Decoded.{out_of_form}
pub use Rattle.city_decimals.specs.Encoded.{encoded, encoded_items, encoded_members, encoded_top}
pub use Rattle.city_decimals.specs.Shapes.{has_shield, is_shielded, is_tag, only}
pub use Rattle.city_decimals.specs.Texts.{IsDecimalsFault, IsDecoded}
pub use Rattle.city_doc.proofs.Laws.{are_in, array_is, is_in, object_is}
pub use Rattle.city_writer.specs.Pool.{geometry_points, object_points, pool_of, shape_points}
pub use Rattle.city_writer.specs.document.Canonical.{transform_data, tree_of}
pub use Rattle.city_doc.specs.document.Faults.{DocumentFault}
pub use Rattle.city_writer.specs.document.Ranges.{IsInRange}
pub use Rattle.city_writer.specs.internal.tree.PartTokens.{listed}
pub use Rattle.city_writer.specs.object.Canonical.{object_data}
pub use Rattle.city_writer.specs.shape.Canonical.{boundaries_data}
pub use Rattle.city_writer.specs.shape.Vertices.{vertex_data}
pub use Rattle.city_members.proofs.Ids.{by_id}
pub use Rattle.city_model.specs.CityMap.{CityValue, has_id, same_id}
pub use Rattle.city_members.specs.Members.{AreOrdered}
pub use Rattle.city_model.specs.declared.object.Geometry.{Geometry}
pub use Rattle.city_model.specs.declared.object.Object.{Object}
pub use Rattle.city_model.specs.declared.object.Point.{Point}
pub use Rattle.city_model.specs.declared.object.Shape.{Shape}
pub use Rattle.city_tokens.proofs.Options.{and_then_some, map_some}
pub use Rattle.city_tokens.specs.document.Cities.{IsTextOfCity}
pub use Rattle.city_tokens.specs.object.Bodies.{object_of}
pub use Rattle.city_tokens.specs.shape.Geometries.{nested_of}
pub use Rattle.city_model.specs.Nesting.{Nested, nested, shape_name}
pub use Rattle.city_tokens.specs.shape.GeometryTypes.{geometry_type}
pub use Rattle.city_tokens.specs.tree.Lists.{list_of, read_items}
pub use Rattle.city_writer.specs.tree.Lists.{put_list}
pub use Rattle.city_tokens.specs.tree.Triples.{point_of, points_of, triple_of}
pub use Rattle.city_canonical.specs.Placed.{list_at, or_empty, placed}

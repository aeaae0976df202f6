-- Words shared by the proofs of this crate, from std, from the libraries and from its own definitions.
pub use Rattle.std.proofs.Common.{Bool, Equal, Less, List, None, Option, Ordering, Result, Some, [], ap, append-nil}
pub use Rattle.std.proofs.Common.{append_assoc, ap₂, arith, cond, drop, false, get_or, inl, inr, is_eq, length, map}
pub use Rattle.std.proofs.Common.{max, nat_cmp, not, pos, refl, rules, subst, suc, sym, true, true≢false, zero, ℕ, ℤ}
pub use Rattle.std.proofs.Common.{◌++◌, ◌<◌, ◌∙◌, ◌∷◌, ◌≡◌, ◌≤◌, ◌⊎◌}
pub use Rattle.std.proofs.Output.{has_written_of_eq}
pub use Rattle.std.proofs.lemmas.Bool.{and_from, and_parts, lt-ltb, ltb-true}
pub use Rattle.std.proofs.lemmas.Cmp.{nat_list_cmp_total}
pub use Rattle.std.proofs.lemmas.Iterator.Adapters.{YieldsList-from_vec, option_map_id}
pub use Rattle.std.proofs.lemmas.List.Folds.{list_all-append}
pub use Rattle.std.proofs.lemmas.List.Sums.{prefix_len-le-length}
pub use Rattle.std.proofs.lemmas.Result.{IfOk-weaker}
pub use Rattle.std.proofs.lemmas.Str.{encode_ascii}
pub use Rattle.std.specs.Char.{encode_utf8}
pub use Rattle.std.specs.Cmp.Lexicographic.{slice_cmp}
pub use Rattle.std.specs.FinMap.{entries}
pub use Rattle.std.specs.List.{AllByRecursion, list_all, list_any}
pub use Rattle.std.specs.Map.{keys_of}
pub use Rattle.std.specs.Ordering.{match_ordering}
pub use Rattle.std.specs.Prelude.{codes, flat_map, if◌then◌else◌, is_none, is_some}
pub use Rattle.std.specs.Prelude.{option_and_then, option_map, slice_get, ◌&&◌, ◌^◌}
pub use Rattle.std.specs.Vec.Iter.{into_iter_items}
pub use mathlib.Core.Path.{fun_ext}
pub use Rattle.json.specs.Print.{escape}
pub use Rattle.serde_json.proofs.Views.{get_member-put, view-Array, view-Object}
pub use Rattle.serde_json.specs.Data.{Data, Items, Members, array, depth, item, items_depth, member, members_depth}
pub use Rattle.serde_json.specs.Data.{no_items, no_members, object, put, string}
pub use Rattle.serde_json.specs.Find.{as_i64, as_number, as_object, as_str, at, get, get_member, of_integer}
pub use Rattle.serde_json.specs.Read.{max_depth}
pub use Rattle.serde_json.specs.View.{items_of, items_view, members_view, view}
pub use Rattle.city_members.proofs.Ids.{same_id_back, same_id_true}
pub use Rattle.city_model.proofs.MapsMade.{collected}
pub use Rattle.city_members.proofs.MemberLaws.{get_member-without, ordered_members}
pub use Rattle.city_model.proofs.Objects.{at_entries, entries_ascend}
pub use Rattle.city_model.specs.Chunks.{ids_left}
pub use Rattle.city_model.specs.CityMap.{CityMap, CityValue, Entries, Objects, found_in, has_id, object_at, same_id}
pub use Rattle.city_members.specs.Integral.{is_integral, items_integral, members_integral}
pub use Rattle.city_members.specs.Kept.{geometry_members, has_location, is_empty_object_or_absent, kept_at_geometry}
pub use Rattle.city_members.specs.Kept.{kept_at_object, kept_at_top, kept_at_transform, lacks_each, object_members}
pub use Rattle.city_members.specs.Kept.{top_members, transform_members}
pub use Rattle.city_model.specs.Least.{IsLeast}
pub use Rattle.city_members.specs.Members.{AllAbove, AreOrdered, without, without_each}
pub use Rattle.city_model.specs.Misrelated.{IsMisrelatedAt}
pub use Rattle.city_model.specs.Relations.{IsLawful, IsRelated}
pub use Rattle.city_model.specs.Shells.{body_fault, has_open_shell, some_shape}
pub use Rattle.city_model.specs.Types.{name_of}
pub use Rattle.city_model.specs.declared.frame.Frame.{Frame}
pub use Rattle.city_model.specs.declared.object.Body.{Body}
pub use Rattle.city_model.specs.declared.object.Geometry.{Geometry}
pub use Rattle.city_model.specs.declared.object.Object.{Object}
pub use Rattle.city_model.specs.declared.object.Point.{Point}
pub use Rattle.city_model.specs.declared.object.Shape.{Shape}
pub use Rattle.city_model.specs.Nesting.{Nested, nested, shape_name}
pub use Rattle.city_tokens.proofs.Laws.{as_object-integral, get-integral, get_member-integral, get_member-put_apart}
pub use Rattle.city_tokens.proofs.Laws.{get_member-without_each, listed_again, object_is, object_with}
pub use Rattle.city_tokens.proofs.Options.{and_then_some, if_some, map_grown, map_some}
pub use Rattle.city_tokens.specs.document.Cities.{IsAdmitted, IsTextOfCity, city_of, entries_in, entries_of}
pub use Rattle.city_tokens.specs.document.Cities.{is_city_json, objects_of, points_in}
pub use Rattle.city_tokens.specs.document.Frames.{frame_of, more_of, triple_at, without_top_members}
pub use Rattle.city_tokens.specs.document.FramesOfRest.{frame_of_rest}
pub use Rattle.city_tokens.specs.object.Bodies.{body_of, object_of, type_of, without_object_members}
pub use Rattle.city_tokens.specs.shape.Geometries.{geometry_of, nested_of, point_at, shape_of, without_geometry_members}
pub use Rattle.city_tokens.specs.shape.GeometryTypes.{GeometryType, geometry_type}
pub use Rattle.city_tokens.specs.tree.Lists.{all_read, list_of, list_or_absent, read_items}
pub use Rattle.city_tokens.specs.tree.Members.{is_text, kept_if, text_at}
pub use Rattle.city_tokens.specs.tree.Texts.{IsText}
pub use Rattle.city_tokens.specs.tree.Triples.{point_of, points_of, triple_of}
pub use Rattle.city_writer.specs.tree.Lists.{integer_data, list_data, put_list, triple_data}
pub use Rattle.city_writer.specs.Pool.{city_points, object_points, pool_of}
pub use Rattle.city_writer.specs.document.Canonical.{frame_members, numbered_tree, transform_data, tree_of}
pub use Rattle.city_writer.specs.document.Ranges.{IsInRange}
pub use Rattle.city_writer.specs.internal.document.KeptMembers.{IsKeptCity, are_kept_objects}
pub use Rattle.city_writer.specs.object.Canonical.{object_data, objects_data, with_objects}
pub use Rattle.city_writer.specs.shape.Canonical.{boundaries_data, geometry_data, nested_data, point_data}
pub use Rattle.city_writer.specs.shape.Vertices.{is_i64_point, vertex_data, vertices_data}
pub use Rattle.city_writer.specs.tree.Ranges.{is_i64, is_i64_triple}
pub use Rattle.city_doc.specs.declared.fault.ReadFault.{ReadFault}
pub use Rattle.city_doc.specs.declared.fault.ReadFault.TheVariants.{BadGeometry, BadRing, BadVertex, NotCityJson}
pub use Rattle.city_doc.specs.declared.fault.ReadFault.TheVariants.{NotWhole, OpenShell, Relations, UnknownType}
pub use Rattle.city_doc.specs.declared.fault.ReadFault.TheVariants.{Unsupported}
pub use Rattle.city_doc.specs.document.CityFaults.{IsBadlyRelatedAt, is_bad_ringed, lenient_map_of, lenient_object_of}
pub use Rattle.city_doc.specs.document.CityFaults.{or_empty}
pub use Rattle.city_doc.specs.document.Faults.{IsFirst, StandsAmong, StandsIn, is_unsupported, members_of, objects_in}
pub use Rattle.city_doc.specs.document.Faults.{vertices_in}
pub use Rattle.city_doc.specs.document.Least.{Has}
pub use Rattle.city_doc.specs.document.Top.{all_objects, are_all_objects, are_objects, are_vertices, has_triple}
pub use Rattle.city_doc.specs.document.Top.{is_transform, wrong_member}
pub use Rattle.city_doc.specs.internal.document.ReadObjects.{read_entries, read_of}
pub use Rattle.city_doc.specs.object.Faults.{first_unsupported, has_bad_list, has_bad_vertex, is_bad_geometry}
pub use Rattle.city_doc.specs.object.Faults.{is_unknown_type}
pub use Rattle.city_doc.specs.shape.Forms.{all_items, are_geometries, is_geometry, is_list_of, is_nested, is_position}

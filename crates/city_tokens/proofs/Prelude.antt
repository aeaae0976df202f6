-- Shared names of this crate's proofs, from std, from the libraries and from its own definitions.
pub use Rattle.std.proofs.Common.{Bool, Equal, Greater, IfSome, Less, List, None, Option, Some, [], ap, append-nil}
pub use Rattle.std.proofs.Common.{append_assoc, ap₂, arith, codes, drop, false, get_or, length, map, nat_cmp}
pub use Rattle.std.proofs.Common.{option_map, refl, rules, subst, suc, sym, take, true, true≢false, w64, zero, ℕ, ℤ}
pub use Rattle.std.proofs.Common.{◌*◌, ◌++◌, ◌+◌, ◌-◌, ◌<◌, ◌∙◌, ◌∷◌, ◌≡◌, ◌≤◌}
pub use Rattle.std.proofs.lemmas.Cmp.{nat_list_cmp_total}
pub use Rattle.std.proofs.lemmas.List.{length-map}
pub use Rattle.std.proofs.lemmas.Map.Lookups.{exact_bytes}
pub use Rattle.std.proofs.lemmas.Option.{IfSome_then}
pub use Rattle.std.specs.BTreeMap.{IsFromIterResult}
pub use Rattle.std.specs.Cmp.Lexicographic.{slice_cmp}
pub use Rattle.std.specs.List.{AllByRecursion, list_all}
pub use Rattle.std.specs.Prelude.{if◌then◌else◌, is_some, option_and_then, slice_set}
pub use Rattle.std.specs.Vec.Iter.{into_iter_items}
pub use mir.Val.{of_z, to_z}
pub use Rattle.json.specs.Json.{after_end_array, items, members, parse_map, read_key, value}
pub use Rattle.json.specs.Reads.{token_of}
pub use Rattle.json.specs.Token.{Token, begin_array}
pub use Rattle.serde_json.specs.Data.{Data, Items, Members, array, item, member, no_items, no_members, number, object}
pub use Rattle.serde_json.specs.Data.{put, string}
pub use Rattle.serde_json.specs.Find.{as_str, get, get_member, of_integer}
pub use Rattle.serde_json.specs.Read.{converted, of_items, of_json, of_members}
pub use Rattle.serde_json.specs.View.{items_of, items_view, members_view, view}
pub use Rattle.city_members.proofs.Ids.{by_id, same_id_back}
pub use Rattle.city_model.proofs.MapsMade.{made}
pub use Rattle.city_members.proofs.MemberLaws.{get_member-without}
pub use Rattle.city_model.specs.CityMap.{Entries, has_id, same_id}
pub use Rattle.city_members.specs.Integral.{is_integral, items_integral, members_integral}
pub use Rattle.city_members.specs.Members.{AllAbove, AreOrdered, without, without_each}
pub use Rattle.city_model.specs.Scripts.{ends_once}
pub use Rattle.city_model.specs.declared.command.Command.{Command}
pub use Rattle.city_model.specs.declared.object.Body.{Body}
pub use Rattle.city_model.specs.declared.object.Geometry.{Geometry}
pub use Rattle.city_model.specs.declared.object.Object.{Object}
pub use Rattle.city_model.specs.declared.object.Point.{Point}
pub use Rattle.city_tokens.specs.declared.object.ObjectParts.{ObjectParts}
pub use Rattle.city_tokens.specs.declared.vertices.Vertex.{Vertex}
pub use Rattle.city_tokens.specs.document.Cities.{entries_of, objects_of}
pub use Rattle.city_tokens.specs.internal.Commands.{IsCommand}
pub use Rattle.city_tokens.specs.internal.Geometries.{IsGeometry}
pub use Rattle.city_tokens.specs.internal.Objects.{IsObject, IsObjectSoFar, IsResolvedObject}
pub use Rattle.city_tokens.specs.internal.Positions.{IsResolved, IsVertex, opened, points_of}
pub use Rattle.city_tokens.specs.internal.Scripts.{IsScript}
pub use Rattle.city_tokens.specs.internal.Standing.{IsArrayOf, IsListSlot, IsPassed, IsReadAs, IsString, IsTaken, Pairs}
pub use Rattle.city_tokens.specs.internal.Taken.{IsValue}
pub use Rattle.city_tokens.specs.object.Bodies.{object_of}
pub use Rattle.city_tokens.specs.script.Commands.{command_of}
pub use Rattle.city_tokens.specs.shape.Geometries.{geometry_of}
pub use Rattle.city_tokens.specs.tree.Lists.{all_read, array_of, list_of, read_items}
pub use Rattle.city_tokens.specs.tree.Triples.{all_triples, point_of}

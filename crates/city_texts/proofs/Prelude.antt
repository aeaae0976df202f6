-- Shared names of this crate's proofs, from std, from the libraries and from its own definitions.
pub use Rattle.std.proofs.Common.{IfSome, List, None, Option, Some, [], ap, append-nil, append_assoc, ap₂, arith, codes}
pub use Rattle.std.proofs.Common.{false, length, nat_cmp, refl, rules, subst, sym, ℕ, ◌++◌, ◌<◌, ◌∙◌, ◌∷◌, ◌≡◌, ◌≤◌}
pub use Rattle.std.proofs.lemmas.Option.{IfSome_then}
pub use Rattle.std.specs.BTreeMap.{IsFromIterResult}
pub use Rattle.std.specs.Cmp.Lexicographic.{slice_cmp}
pub use Rattle.std.specs.List.{AllByRecursion}
pub use Rattle.std.specs.Vec.Iter.{into_iter_items}
pub use Rattle.json.specs.Json.{read_key}
pub use Rattle.json.specs.Reads.{token_of}
pub use Rattle.json.specs.Token.{Token}
pub use Rattle.serde_json.specs.Data.{Data, Members, array, no_members, object, put}
pub use Rattle.serde_json.specs.View.{items_of, members_view}
pub use Rattle.city_model.proofs.MapsMade.{made}
pub use Rattle.city_model.specs.CityMap.{has_id}
pub use Rattle.city_model.specs.declared.object.Object.{Object}
pub use Rattle.city_tokens.specs.declared.vertices.Vertex.{Vertex}
pub use Rattle.city_tokens.specs.document.Cities.{objects_of}
pub use Rattle.city_tokens.specs.internal.Objects.{IsResolvedObject}
pub use Rattle.city_tokens.specs.internal.Positions.{IsVertex, points_of}
pub use Rattle.city_tokens.specs.internal.Standing.{IsArrayOf, IsPassed, IsReadAs, IsTaken, Pairs}

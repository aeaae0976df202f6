-- Words shared by the proofs of this crate, from std, from the libraries and from its own definitions.
pub use Rattle.std.proofs.Common.{Bool, List, None, Option, Some, [], add-one, ap, append-nil, ap₂, arith, drop}
pub use Rattle.std.proofs.Common.{drop-cons, false, get_or, inl, inr, length, map, not, refl, rules, subst, suc, sym}
pub use Rattle.std.proofs.Common.{true, true≢false, zero, ℕ, ◌++◌, ◌+◌, ◌<◌, ◌∙◌, ◌∷◌, ◌≡◌, ◌≤◌, ◌⊎◌}
pub use Rattle.std.proofs.lemmas.Bool.{and_parts}
pub use Rattle.std.proofs.lemmas.Result.{IfOk-weaker}
pub use Rattle.std.specs.List.{list_all, list_any}
pub use Rattle.std.specs.Prelude.{codes, is_none, is_some, option_and_then, option_map, slice_get, ◌&&◌}
pub use Rattle.std.specs.Vec.Iter.{into_iter_items}
pub use Rattle.serde_json.specs.Data.{Data, Items, Members, array, item, no_items, no_members, number, object, put}
pub use Rattle.serde_json.specs.Data.{string}
pub use Rattle.serde_json.specs.Find.{as_object, as_str, get, get_member}
pub use Rattle.serde_json.specs.View.{items_view, members_view, view}
pub use Rattle.city_members.proofs.MemberLaws.{get_member-without}
pub use Rattle.city_members.specs.Integral.{is_integral}
pub use Rattle.city_members.specs.Members.{without}
pub use Rattle.city_model.specs.Runs.{Scripted}
pub use Rattle.city_model.specs.declared.command.Command.{Command}
pub use Rattle.city_model.specs.declared.object.Body.{Body}
pub use Rattle.city_model.specs.declared.object.Geometry.{Geometry}
pub use Rattle.city_model.specs.declared.object.Point.{Point}
pub use Rattle.city_tokens.proofs.Laws.{array_of-integral, as_object-integral, get-integral, get_member-integral}
pub use Rattle.city_tokens.proofs.Options.{and_then_some, if_some, map_some}
pub use Rattle.city_tokens.specs.internal.ScriptItems.{script_of_item}
pub use Rattle.city_tokens.specs.object.Bodies.{body_of}
pub use Rattle.city_tokens.specs.script.Commands.{command_of}
pub use Rattle.city_tokens.specs.script.Scripts.{ScriptParts, commands_in, parts_in, parts_of, vertex_count, word_ends}
pub use Rattle.city_tokens.specs.tree.Lists.{all_read, list_of, read_items}
pub use Rattle.city_tokens.specs.tree.Members.{kept_if}
pub use Rattle.city_tokens.specs.tree.Texts.{IsText}
pub use Rattle.city_scripts.specs.internal.Forms.{parts_views}
pub use Rattle.city_scripts.specs.internal.Searches.{bad_script, first_at, first_command, first_in, index_if, index_in}
pub use Rattle.city_doc.specs.object.Faults.{has_bad_vertex, is_bad_geometry, is_unknown_type}
pub use Rattle.city_scripts.specs.CommandFaults.{is_bad_command, names_bad_vertex}
pub use Rattle.city_doc.specs.shape.Forms.{is_position}

-- Words shared by the proofs of this crate.
pub use Rattle.std.proofs.Common.{add-one, List, None, Option, Some, [], ap, append-nil, append_assoc, arith, drop}
pub use Rattle.std.proofs.Common.{length, map}
pub use Rattle.std.proofs.Common.{refl, rules, suc, subst, sym, ℕ, ◌++◌, ◌∙◌, ◌∷◌, ◌≡◌, drop-cons, get_or, inl, inr}
pub use Rattle.std.proofs.Common.{◌+◌, ◌<◌, ◌≢◌}
pub use Rattle.std.specs.Prelude.{codes, option_map, option_to_list, flat_map, filter}
pub use Rattle.json.specs.Lex.{tokens}
pub use Rattle.json.specs.Print.{print}
pub use Rattle.json.specs.Token.{Token, begin_object, end_object, begin_array, end_array, key, string}
pub use Rattle.json.specs.Written.{Written}
pub use Rattle.city_lines.specs.Answers.{hand_tokens, line_front, line_text, IsBegun}
pub use Rattle.city_lines.specs.Members.{HasMember, HasNone, IsObjectOf, member_tokens, requests}
pub use Rattle.city_lines.specs.declared.members.Member.{Member}
pub use Rattle.city_lines.specs.declared.name.Name.{Name}
pub use Rattle.city_model.specs.declared.object.Object.{Object}
pub use Rattle.std.proofs.lemmas.Result.{on_ok_weaker}
pub use Rattle.std.proofs.Common.{OnOk, Result}
pub use Rattle.serde_json.specs.Data.{Data, Members, member, no_members}
pub use Rattle.city_writer.specs.internal.tree.PartTokens.{closing_members, tokens_of_members}
pub use Rattle.city_writer.specs.tree.Tokens.{tokens_of}

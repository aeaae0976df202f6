-- The shared names of this crate's proofs, from std, the libraries and its own definitions.
pub use Rattle.std.proofs.Common.{Bool, List, None, Option, Ordering, Some, [], ap, append-nil, append_assoc, ap₂}
pub use Rattle.std.proofs.Common.{arith, cond, drop, false, get_or, length, length-drop, nat_cmp, refl, rules, subst}
pub use Rattle.std.proofs.Common.{suc, sym, take, take_all, true, true≢false, ℕ, ◌*◌, ◌++◌, ◌+◌, ◌-◌, ◌<◌, ◌∙◌, ◌∷◌}
pub use Rattle.std.proofs.Common.{◌≡◌, ◌≢◌, ◌≤◌}
pub use Rattle.std.proofs.lemmas.Fmt.{decimal_digit}
pub use Rattle.std.proofs.lemmas.Grind.{common_steps}
pub use Rattle.std.proofs.lemmas.List.{drop-append-le, get_or-take, length-take}
pub use Rattle.std.proofs.lemmas.Result.{on_ok_weaker}
pub use Rattle.std.proofs.lemmas.Slice.Eq.{bytes_eq-Decides}
pub use Rattle.std.specs.Cmp.Lexicographic.{slice_cmp}
pub use Rattle.std.specs.Ordering.{match_ordering}
pub use Rattle.std.specs.Prelude.{IfSome, codes, option_and_then, option_map, ◌&&◌}
pub use Rattle.std.specs.Str.{IsUtf8, bytes_eq}
pub use Rattle.json.proofs.Found.{Some_inj}
pub use Rattle.json.proofs.Grammar.{members_end, members_fail, members_more, members_no_key, value-begin_object}
pub use Rattle.json.proofs.Grammar.{value_is}
pub use Rattle.json.proofs.Printed.Trees.{document-print}
pub use Rattle.json.specs.Json.{Items, Json, Members, Parse, after_end_array, array, boolean, document, if_last, item}
pub use Rattle.json.specs.Json.{items, max_depth, member, members, no_items, no_members, null, number, object}
pub use Rattle.json.specs.Json.{parse_map, read_key, string, value}
pub use Rattle.json.specs.Lex.{tokens}
pub use Rattle.json.specs.Print.{IsNumber, escape, print, quoted}
pub use Rattle.json.specs.Token.{Token}
pub use Rattle.json.specs.Tree.{HasNumbers, ItemsHaveNumbers, MembersHaveNumbers, depth, items_tokens, json_tokens}
pub use Rattle.json.specs.Tree.{members_tokens}
pub use Rattle.json.specs.Value.{items_view, members_view, value_view}
pub use Rattle.json.specs.declared.value.Value.{Value}
pub use Rattle.serde_json.proofs.Numbers.{number_of-decimal}
pub use Rattle.serde_json.specs.Data.{Data, Num, put}
pub use Rattle.serde_json.specs.Read.{number_of, of_items, of_json, of_members}
pub use Rattle.city_decimals.specs.Decoded.{decoded, decoded_items, decoded_members, decoded_top, number_in, number_or}
pub use Rattle.city_decimals.specs.Decoded.{number_under, out_of_form}
pub use Rattle.city_decimals.specs.Encoded.{encoded, encoded_items, encoded_members, encoded_top, tagged}
pub use Rattle.city_decimals.specs.Lines.{AreDecodedLines, IsDecodedLine}
pub use Rattle.city_decimals.specs.Numbers.{is_end, is_number, is_whole, is_written_so}
pub use Rattle.city_decimals.specs.Shapes.{form_of, framed, fronted, has_shield, in_form, is_attributes}
pub use Rattle.city_decimals.specs.Shapes.{is_fraction, is_frame, is_shielded, is_single, is_tag, is_text}
pub use Rattle.city_decimals.specs.Shapes.{is_text_or_array, is_transform, only, tag}
pub use Rattle.city_decimals.specs.Texts.{IsDecoded, IsFaultTo, document_to}
pub use Rattle.city_decimals.specs.Whole.{is_integral}
pub use Rattle.city_decimals.specs.declared.fault.DecimalsFault.{DecimalsFault}
pub use Rattle.city_decimals.specs.declared.shapes.Form.{Form}
pub use Rattle.city_decimals.specs.declared.shapes.Form.TheVariants.{Plain, Shielded}
pub use Rattle.city_decimals.specs.declared.direction.Direction.{Direction}
pub use Rattle.city_decimals.specs.declared.direction.Direction.TheVariants.{Decode, Encode}
pub use Rattle.city_decimals.specs.internal.Changes.{IsChanged, top_changed}
pub use Rattle.city_decimals.specs.internal.Compact.{AreItemsCopied, AreMembersCopied, IsCopied, IsFrameCopied}
pub use Rattle.city_decimals.specs.internal.Compact.{IsItemCopied, IsUntagged, State, comma_if, items_text}
pub use Rattle.city_decimals.specs.internal.Compact.{members_text, value_text}
pub use Rattle.city_decimals.specs.internal.Copies.{IsPlainByte, Moves}
pub use Rattle.city_decimals.specs.internal.Forms.{tokens_after}
pub use Rattle.city_decimals.specs.internal.Objects.{decoded_object}
pub use Rattle.city_decimals.specs.internal.Passed.{ArePassed}
pub use Rattle.city_decimals.specs.internal.PlainNumbers.{IsPlain}
pub use Rattle.city_decimals.specs.internal.Streams.{written}
pub use Rattle.city_decimals.specs.internal.Directions.{changed, frame_changed, items_changed, member_changed}
pub use Rattle.city_decimals.specs.internal.Directions.{members_changed, object_made}

-- Laws over the definitions of this crate, for the crates above.
pub use Rattle.city_tokens.proofs.document.BuiltFrames.{frame_is}
pub use Rattle.city_tokens.proofs.document.Listings.{OfEach, at_listed, listed_again, of_each_listed}
pub use Rattle.city_tokens.proofs.script.BuiltScripts.{built_few, built_many, scripts_read}
pub use Rattle.city_tokens.proofs.script.CommandLaws.{ends_once-read}
pub use Rattle.city_tokens.proofs.script.OwnForms.{form_owns, owns}
pub use Rattle.city_tokens.proofs.tree.IntegralParts.{array_is, array_of-integral}
pub use Rattle.city_tokens.proofs.tree.IntegralParts.{as_object-integral, count_of-items, get-integral}
pub use Rattle.city_tokens.proofs.tree.IntegralParts.{get_member-integral, items_list-of, object_is, object_with}
pub use Rattle.city_tokens.proofs.tree.IntegralParts.{put-integral}
pub use Rattle.city_tokens.proofs.tree.AllRead.{all_read-all, all_read-some, are_triples-read, in_all, three_some}
pub use Rattle.city_tokens.proofs.tree.Puts.{get_member-put_apart}
pub use Rattle.city_tokens.proofs.tree.Puts.{get_member-without_each}
pub use Rattle.city_tokens.proofs.tree.Puts.{lacks_each-without_each, members_integral-without_each}
pub use Rattle.city_tokens.proofs.tree.Puts.{without-four, without-put}
pub use Rattle.city_tokens.proofs.tree.Puts.{without-swap, without-three, without-twice}
pub use Rattle.city_tokens.proofs.tree.Puts.{without-absent}

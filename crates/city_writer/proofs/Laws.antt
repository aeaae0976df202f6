-- Laws over the definitions of texts as they are written, for the crates above.
pub use Rattle.city_writer.proofs.document.Lacking.{top_members_lacking, object_members_lacking}
pub use Rattle.city_writer.proofs.object.WrittenObjects.{written_in_turn, ordered_in_turn, keys_of_push}
pub use Rattle.city_writer.proofs.pool.KeptNumbers.{same_itself}
pub use Rattle.city_writer.proofs.pool.NumberedPoints.{is_in, are_in, points_in_pool, parts_in, found}
pub use Rattle.city_writer.proofs.tree.Integers.{text_of_integer}
pub use Rattle.city_writer.proofs.tree.ReadBack.{text_reads}

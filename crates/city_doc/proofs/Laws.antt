-- Laws over the definitions of documents, for the crates above.
pub use Rattle.city_members.proofs.Puts.{ordered_put}
pub use Rattle.city_tokens.proofs.Laws.{get_member-put_apart, array_is}
pub use Rattle.city_doc.proofs.tree.PutLists.{get_member-put_list_apart}
pub use Rattle.city_tokens.proofs.Laws.{object_is, at_listed}
pub use Rattle.city_writer.proofs.Laws.{text_of_integer, same_itself, is_in, are_in, points_in_pool, parts_in}
pub use Rattle.city_writer.proofs.Laws.{written_in_turn, ordered_in_turn}
pub use Rattle.city_doc.proofs.shape.PointsRead.{nested_read}
pub use Rattle.city_writer.specs.internal.object.InTurn.{in_turn}
pub use Rattle.city_doc.proofs.document.LawfulTrees.{HasFrameParts, frame_parts, StandsFor, stands_for}
pub use Rattle.city_doc.proofs.document.KeptMembers.{kept_passes}
pub use Rattle.city_doc.proofs.document.NoFault.{IsReadAs, read_as, found}
pub use Rattle.city_doc.proofs.object.FaultlessBodies.{HasGeometryParts, geometry_parts, formed, geometries_fit}
pub use Rattle.city_doc.proofs.object.FaultlessBodies.{is_object, known, number_fits, placed, position_fits, supported}
pub use Rattle.city_doc.proofs.object.ReadBodies.{body_of-some, geometries_some}
pub use Rattle.city_doc.proofs.tree.ReadLists.{all_read-step}
pub use Rattle.city_doc.proofs.document.Right.{array_some, some_of}
pub use Rattle.city_doc.proofs.document.IntegralTrees.{geometry_integral, list_integral, object_integral}
pub use Rattle.city_doc.proofs.document.IntegralTrees.{put_list_whole, vertex_integral}
pub use Rattle.city_doc.proofs.document.KeptMembers.{kept_all}
pub use Rattle.city_doc.proofs.document.RoundTrip.{vertices_read}
pub use Rattle.city_doc.proofs.object.ObjectsRead.{both_all, geometry_read, object_read}
pub use Rattle.city_doc.proofs.tree.ListsRead.{all_pass, list_read}

use Rattle.city_writer.proofs.Prelude.{on_ok_weaker, append_assoc, refl}
use Rattle.city_writer.proofs.tree.ReadBack.{array_reads}
use Rattle.city_writer.proofs.document.PutMembers.{on_ok}
use Rattle.city_writer.proofs.shape.VerticesInTurn.{vertices_closed}
use Rattle.city_writer.proofs.shape.vertices.write_vertices.Goals as goal

pub returns-clause-reads : goal.returns-clause-reads
returns-clause-reads c =
    on_ok_weaker c.end_array.result (λ e. array_reads _ c.in_ok-write_each.ensures.reads) c.end_array.ensures.ok

pub returns-clause-tokens : goal.returns-clause-tokens
returns-clause-tokens c =
    on_ok c.end_array.result c.end_array.ensures.ok (λ e.
    rw (e, c.in_ok-write_each.ensures.tokens, c.in_ok-begin_array.ensures.ok, vertices_closed c.args.points.now)
    (simp append_assoc refl))

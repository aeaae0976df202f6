use Rattle.city_writer.proofs.Prelude.{[], ◌∷◌, Some, sym, ap, rules, no_members, object_data, vertices_data}
use Rattle.city_writer.proofs.Prelude.{object_points}
use Rattle.std.proofs.Common.{codes}
use Rattle.city_writer.specs.report.Replies.{numbered_object, found_data}
use Rattle.city_writer.proofs.document.PutMembers.{IsPut, all_pooled, put_written, on_ok}
use Rattle.city_writer.proofs.report.reply.write_numbered.Goals as goal

pub returns-clause-tokens : goal.returns-clause-tokens
returns-clause-tokens c =
    let o = c.args.object.now in
    let pool = c.write_object.new.pool in
    let own = (codes "object", Some (object_data pool o)) ∷ (codes "vertices", Some (vertices_data pool)) ∷ [] in
    let pooled = all_pooled _ _ (object_points o) c.requires c.in_ok-write_object.ensures.pool in
    let put : IsPut no_members own (found_data o) =
    record { is = ap (λ ps. numbered_object ps o) (sym pooled); ordered = tt; apart = search rules } in
    on_ok c.end_object.result c.end_object.ensures.ok (λ e.
    rw (
      e,
      c.in_ok-write_vertices.ensures.tokens,
      c.as_slice.ensures,
      c.in_ok-key-2.ensures.ok,
      c.in_ok-write_object.ensures.tokens [],
    )
    (rw (c.in_ok-key.ensures.ok, c.in_ok-begin_object.ensures.ok) (put_written 0 _ put)))

use Rattle.city_writer.proofs.Prelude.{geometry_data, list_data, refl, string, with_points}
use Rattle.std.proofs.Common.{codes}
use Rattle.city_writer.proofs.tree.Among.{string_reads}
use Rattle.city_writer.proofs.document.PutMembers.{on_ok}
use Rattle.city_writer.proofs.script.Parts.{two_written, two_read}
use Rattle.city_writer.proofs.script.command.write_reshape.Goals as goal

pub returns-clause-tokens : goal.returns-clause-tokens
returns-clause-tokens c =
    on_ok c.end_object.result c.end_object.ensures.ok (λ e later.
    let geometry = list_data (geometry_data (with_points c.write.new.pool later)) c.args.geometry.now in
    rw (e, c.in_ok-string.ensures.ok, c.as_str.ensures, c.in_ok-key-2.ensures.ok)
    (rw (c.in_ok-write.ensures.tokens later, c.in_ok-key.ensures.ok, c.in_ok-begin_object.ensures.ok)
    (two_written (codes "geometry") geometry (codes "reshape") (string c.args.id.now) refl c.args.out.now.tokens)))

pub returns-clause-reads : goal.returns-clause-reads
returns-clause-reads c =
    on_ok c.end_object.result c.end_object.ensures.ok (λ e pool small.
    two_read (codes "geometry") (list_data (geometry_data pool) c.args.geometry.now) (codes "reshape")
    (string c.args.id.now) refl (c.in_ok-write.ensures.reads pool small) (string_reads _))

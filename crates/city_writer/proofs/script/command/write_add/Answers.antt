use Rattle.city_writer.proofs.Prelude.{refl, string, with_points}
use Rattle.std.proofs.Common.{codes}
use Rattle.city_writer.specs.script.Commands.{body_data}
use Rattle.city_writer.proofs.tree.Among.{string_reads}
use Rattle.city_writer.proofs.document.PutMembers.{on_ok}
use Rattle.city_writer.proofs.script.Parts.{two_written, two_read}
use Rattle.city_writer.proofs.script.command.write_add.Goals as goal

pub returns-clause-tokens : goal.returns-clause-tokens
returns-clause-tokens c =
    on_ok c.end_object.result c.end_object.ensures.ok (λ e later.
    let body = body_data (with_points c.write_unrelated.new.pool later) c.args.body.now in
    rw (e, c.in_ok-write_unrelated.ensures.tokens later, c.in_ok-key-2.ensures.ok, c.in_ok-string.ensures.ok)
    (rw (c.as_str.ensures, c.in_ok-key.ensures.ok, c.in_ok-begin_object.ensures.ok)
    (two_written (codes "add") (string c.args.id.now) (codes "object") body refl c.args.out.now.tokens)))

pub returns-clause-reads : goal.returns-clause-reads
returns-clause-reads c =
    on_ok c.end_object.result c.end_object.ensures.ok (λ e pool small.
    two_read (codes "add") (string c.args.id.now) (codes "object") (body_data pool c.args.body.now) refl
    (string_reads _) (c.in_ok-write_unrelated.ensures.reads pool small))

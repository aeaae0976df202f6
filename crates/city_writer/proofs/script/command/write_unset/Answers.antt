use Rattle.city_writer.proofs.Prelude.{list_data, refl, string}
use Rattle.std.proofs.Common.{codes}
use Rattle.city_writer.proofs.tree.Among.{string_reads}
use Rattle.city_writer.proofs.document.PutMembers.{on_ok}
use Rattle.city_writer.proofs.script.Parts.{two_written, two_read}
use Rattle.city_writer.proofs.script.command.write_unset.Goals as goal

pub returns-clause-tokens : goal.returns-clause-tokens
returns-clause-tokens c =
    on_ok c.end_object.result c.end_object.ensures.ok (λ e.
    rw (e, c.in_ok-string.ensures.ok, c.as_str.ensures, c.in_ok-key-2.ensures.ok, c.in_ok-write_names.ensures.tokens)
    (rw (c.as_slice.ensures, c.in_ok-key.ensures.ok, c.in_ok-begin_object.ensures.ok)
    (two_written (codes "attributes") (list_data string c.args.names.now) (codes "unset") (string c.args.id.now) refl
    c.args.out.now.tokens)))

pub returns-clause-reads : goal.returns-clause-reads
returns-clause-reads c =
    let names = rw c.as_slice.ensures at c.in_ok-write_names.ensures.reads in
    on_ok c.end_object.result c.end_object.ensures.ok (λ e.
    two_read (codes "attributes") (list_data string c.args.names.now) (codes "unset") (string c.args.id.now) refl names
    (string_reads _))

use Rattle.city_writer.proofs.Prelude.{string}
use Rattle.city_writer.proofs.tree.Among.{string_reads}
use Rattle.city_writer.proofs.document.PutMembers.{on_ok}
use Rattle.city_writer.proofs.script.Parts.{one_written, one_read}
use Rattle.city_writer.proofs.script.command.write_single.Goals as goal

pub returns-clause-tokens : goal.returns-clause-tokens
returns-clause-tokens c =
    on_ok c.end_object.result c.end_object.ensures.ok (λ e.
    rw (e, c.in_ok-string.ensures.ok, c.as_str.ensures, c.in_ok-key.ensures.ok, c.in_ok-begin_object.ensures.ok)
    (one_written c.args.verb.now (string c.args.text.now) c.args.out.now.tokens))

pub returns-clause-reads : goal.returns-clause-reads
returns-clause-reads c =
    on_ok c.end_object.result c.end_object.ensures.ok
    (λ e. one_read c.args.verb.now (string c.args.text.now) (string_reads _))

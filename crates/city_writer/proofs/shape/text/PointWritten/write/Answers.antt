use Rattle.city_writer.proofs.Prelude.{refl}
use Rattle.city_writer.proofs.document.PutMembers.{on_ok}
use Rattle.city_writer.proofs.tree.Integers.{unsigned_reads}
use Rattle.city_writer.proofs.pool.KeptNumbers.{number_kept, number_within}
use Rattle.city_writer.proofs.shape.text.PointWritten.write.Goals as goal

pub returns-clause-tokens : goal.returns-clause-tokens
returns-clause-tokens c =
    on_ok c.write_u64.result c.write_u64.ensures.ok (λ e later. rw (e, c.in_ok-number.ensures.number)
    (rw (c.in_ok-number.ensures.added, number_kept c.args.pool.now c.args.self.now later) refl))

pub returns-clause-reads : goal.returns-clause-reads
returns-clause-reads c =
    on_ok c.write_u64.result c.write_u64.ensures.ok
    (λ e pool small. unsigned_reads _ (number_within pool c.args.self.now small))

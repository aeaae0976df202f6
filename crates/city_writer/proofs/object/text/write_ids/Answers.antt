use Rattle.city_writer.proofs.Prelude.{on_ok_weaker}
use Rattle.city_writer.proofs.tree.ReadBack.{array_reads}
use Rattle.city_writer.proofs.object.text.write_ids.Goals as goal

pub returns-clause-reads : goal.returns-clause-reads
returns-clause-reads c =
    on_ok_weaker c.end_array.result
    (λ e. array_reads _ (c.loop-id.invariant.2 (rw c.in-None.ensures.steps.0 tt))) c.end_array.ensures.ok

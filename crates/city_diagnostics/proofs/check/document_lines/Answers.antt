use Rattle.city_diagnostics.proofs.Prelude.{string_bytes, arith, Tells}
use Rattle.city_diagnostics.proofs.Lines.{grown}
use Rattle.city_diagnostics.proofs.check.document_lines.Goals as goal

pub loop-fault-preserved : goal.loop-fault-preserved
loop-fault-preserved c =
    grown Tells c.args.faults.now c.loop-fault.fault-index c.fault-item.result c.loop-fault.lines.items
    (string_bytes c.in_ok-line.line) c.extend_from_slice.new.self.items (omega arith) c.fault-item.is
    c.loop-fault.invariant c.in_ok-line.ensures (grind arith)

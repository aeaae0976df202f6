use Rattle.city_diagnostics.proofs.Prelude.{string_bytes, ◌<◌, arith, get_or, length}
use Rattle.std.proofs.lemmas.List.{get_or_default}
use Rattle.city_scripts.specs.declared.fault.ScriptFault.{ScriptFault}
use Rattle.city_diagnostics.specs.ScriptLines.{TellsScript}
use Rattle.city_diagnostics.proofs.Lines.{grown}
use Rattle.city_diagnostics.proofs.check.scripts.script_lines.Goals as goal

pub loop-fault-preserved : goal.loop-fault-preserved
loop-fault-preserved c =
    let faults = c.args.faults.now in
    let n = c.loop-fault.fault-index in
    let f = get_or faults n ScriptFault.OutOfMemory in
    let below : n < length faults = omega arith in
    grown TellsScript faults n f c.loop-fault.lines.items (string_bytes c.in_ok-line.line)
    c.extend_from_slice.new.self.items below (get_or_default faults n ScriptFault.OutOfMemory f below)
    c.loop-fault.invariant c.in_ok-line.ensures (grind arith)

use Rattle.city_doc.proofs.Prelude.{sym, ◌∙◌}
use Rattle.city_doc.proofs.document.Begun.{behind_done, is_done, emptiness}
use Rattle.city_doc.proofs.document.each_fault.tell_each.Goals as goal

pub returns-then-not-is_empty : goal.returns-then-not-is_empty
returns-then-not-is_empty g c =
    let faults = c.loop-id.faults in
    let some = emptiness _ _ _ faults.items c.is_empty.ensures faults.ok.0 c.if-not-is_empty.true in
    sym (c.loop-id.invariant ∙ behind_done c.args.first_only faults.items _
    (is_done c.args.first_only faults.items c.if-first_only.true some))

use Rattle.city_scripts.proofs.Prelude.{sym, ◌∙◌, IfOk-weaker}
use Rattle.city_scripts.proofs.AllFaults.{of_text, none_of_some}
use Rattle.city_scripts.proofs.all_faults.all_faults.Goals as goal

pub returns-then-is_some : goal.returns-then-is_some
returns-then-is_some c =
    rw c.new.ensures.items
    (none_of_some c.args.bytes.now _ c.streamed_scripts.ensures (sym c.is_some.ensures ∙ c.if-is_some.true))

pub returns-in-Ok : goal.returns-in-Ok
returns-in-Ok c =
    IfOk-weaker c.tree_faults.result _ _ (λ faults h. of_text c.args.bytes.now _ _ c.in-Ok.ensures.tree h)
    c.tree_faults.ensures

pub returns-in-Err : goal.returns-in-Err
returns-in-Err c =
    IfOk-weaker c.text_faults.result _ _ (λ faults h. h c.args.bytes.now c.in-Err.ensures.fault) c.text_faults.ensures

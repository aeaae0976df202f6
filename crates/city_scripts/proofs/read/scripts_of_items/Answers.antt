use Rattle.city_scripts.proofs.Prelude.{map, ap, sym, ◌∙◌, view, script_of_item}
use Rattle.city_doc.proofs.Laws.{all_read-step}
use Rattle.city_scripts.proofs.read.scripts_of_items.Goals as goal

pub loop-item-preserved : goal.loop-item-preserved
loop-item-preserved c =
    all_read-step script_of_item _ _ _ _ _ _ _ c.loop-item.invariant (ap (map view) c.in-Some.ensures.steps.0)
    (sym c.in_ok-script.ensures ∙ c.in-Some-2.is) c.in_ok-push.ensures.ok

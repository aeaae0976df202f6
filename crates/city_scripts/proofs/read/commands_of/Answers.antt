use Rattle.city_scripts.proofs.Prelude.{map, ap, sym, ◌∙◌, view, command_of}
use Rattle.city_doc.proofs.Laws.{all_read-step}
use Rattle.city_scripts.proofs.read.commands_of.Goals as goal

pub loop-item-preserved : goal.loop-item-preserved
loop-item-preserved c =
    all_read-step (command_of c.args.points.now) _ _ _ _ _ _ _ c.loop-item.invariant
    (ap (map view) c.in-Some.ensures.steps.0) (sym c.in_ok-command.ensures ∙ c.in-Some-2.is) c.in_ok-push.ensures.ok

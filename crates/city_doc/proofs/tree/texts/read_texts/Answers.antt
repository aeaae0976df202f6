use Rattle.city_doc.proofs.Prelude.{ap, sym, ◌∙◌, as_str, items_view}
use Rattle.city_doc.proofs.tree.ReadLists.{read_items-step}
use Rattle.city_doc.proofs.tree.texts.read_texts.Goals as goal

pub loop-item-preserved : goal.loop-item-preserved
loop-item-preserved c =
    read_items-step as_str _ _ _ _ _ _ _ c.loop-item.invariant (ap items_view c.in-Some.ensures.steps.0)
    (sym c.into_text.ensures ∙ c.in-Some-into_text.is) c.in_ok-push-in-Some-into_text.ensures.ok

use Rattle.city_doc.proofs.Prelude.{refl, sym, ◌∙◌}
use Rattle.city_doc.proofs.document.RelatedCities.{if_none}
use Rattle.city_doc.proofs.document.read.related.Goals as goal

-- only the relations are still unjudged
pub returns : goal.returns
returns c = (refl, if_none _ (sym c.is_some.ensures ∙ c.if-is_some.false) c.relations_fault.ensures.none)

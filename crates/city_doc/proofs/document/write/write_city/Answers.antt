use Rattle.city_doc.proofs.Prelude.{◌++◌, ◌∙◌, ap, sym, subst, rules}
use Rattle.city_writer.specs.document.Canonical.{city_text}
use Rattle.city_doc.specs.document.CanonicalTexts.{IsCanonicalText}
use Rattle.city_doc.proofs.document.write.write_city.Goals as goal

pub returns : goal.returns
returns c =
    let city = c.args.city.now in
    let text = c.in_ok-text.ensures.text ∙ ap (λ bs. bs ++ city_text city) c.new.ensures.items in
    let canonical = subst (λ t. IsCanonicalText t city) (sym text) c.in_ok-text.ensures.canonical in
    search rules

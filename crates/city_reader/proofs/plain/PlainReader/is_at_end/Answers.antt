use Rattle.std.proofs.Common.{◌≡◌, true, sym, ap, ◌∙◌}
use Rattle.std.proofs.lemmas.Bool.{and_parts, eqb-true}
use Rattle.json.specs.Lex.{between, lex, punctuate}
use Rattle.city_reader.specs.Plain.{place_of, closes_at}
use Rattle.city_reader.proofs.Turns.{end}
use Rattle.city_reader.proofs.plain.PlainReader.is_at_end.Goals as goal

pub returns : goal.returns
returns c h =
    let a = c.self.inside in
    let both = and_parts _ _ h in
    let over = c.peek.ensures.end (eqb-true _ 32 both.0) in
    let close : closes_at a.place ≡ true = sym c.may_close.ensures ∙ both.1 in
    sym c.self.view_is ∙ ap (punctuate (place_of a.place)) (sym c.peek.ensures.same ∙ ap (lex between) over)
    ∙ end (place_of a.place) close

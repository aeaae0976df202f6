use Rattle.std.proofs.Common.{◌≡◌, ◌∷◌, true, w64, sym, ap, ◌∙◌, arith, rules}
use mir.Val.{of_z, to_z}
use Rattle.json.specs.Token.{number}
use Rattle.json.specs.Lex.{punctuate}
use Rattle.city_reader.specs.Plain.{place_of, begins_at}
use Rattle.city_reader.proofs.Turns.{number_next}
use Rattle.city_reader.proofs.plain.PlainReader.take_whole.Goals as goal

pub returns : goal.returns
returns c =
    let a = c.self.inside in
    let n = c.in_ok-n in
    let p = place_of a.place in
    let same : to_z w64 (of_z w64 n.n) ≡ n.n = search rules in
    let may : begins_at a.place ≡ true = grind arith in
    let first = number_next c.peek.new.self c.take_whole.new.self n.ensures.0 p n.ensures.1 may in
    let left = ap (λ ts. number n.ensures.0 ∷ ts) (sym c.after_whole-self-inside.ensures) in
    (n.ensures.0, sym c.self.view_is ∙ ap (punctuate p) (sym c.peek.ensures.same) ∙ first ∙ left, rw same n.ensures.2)

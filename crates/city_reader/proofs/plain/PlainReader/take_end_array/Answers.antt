use Rattle.std.proofs.Common.{◌≡◌, true, sym, ap, ◌∙◌, arith}
use Rattle.json.specs.Json.{after_end_array}
use Rattle.json.specs.Lex.{punctuate}
use Rattle.json.specs.Word.{head}
use Rattle.city_reader.specs.Plain.{place_of, closes_at}
use Rattle.city_reader.proofs.Turns.{array_end}
use Rattle.city_reader.proofs.plain.PlainReader.take_end_array.Goals as goal

pub returns : goal.returns
returns c =
    let a = c.self.inside in
    let first : head c.peek.new.self ≡ 93 = grind arith in
    let close : closes_at a.place ≡ true = grind arith in
    ap after_end_array
    (sym c.self.view_is ∙ ap (punctuate (place_of a.place)) (sym c.peek.ensures.same)
    ∙ array_end c.peek.new.self c.skip.new.self (place_of a.place) _ (first, c.skip.ensures)
    c.after_value-self-inside.ensures close)

use Rattle.std.proofs.Common.{take, refl, sym, ◌∙◌, arith}
use Rattle.std.proofs.lemmas.List.{length-take-le}
use Rattle.city_reader.proofs.Digits.{below, digits_scanned}
use Rattle.city_reader.proofs.small.digits_at_front.Goals as goal

pub returns-then-stands_alone-clause-integer : goal.returns-then-stands_alone-clause-integer
returns-then-stands_alone-clause-integer c =
    let t = c.args.text.now in
    let i = c.few_digits-n.ensures in
    let long = length-take-le c.few_digits-n.result.1 t i.1 in
    (digits_scanned (take c.few_digits-n.result.1 t) i.2 (omega (arith, long, (c.if-stands_alone.ensures refl).0))).0

pub returns-then-stands_alone-clause-value : goal.returns-then-stands_alone-clause-value
returns-then-stands_alone-clause-value c =
    let t = c.args.text.now in
    let i = c.few_digits-n.ensures in
    let long = length-take-le c.few_digits-n.result.1 t i.1 in
    (digits_scanned (take c.few_digits-n.result.1 t) i.2 (omega (arith, long, (c.if-stands_alone.ensures refl).0))).1
    ∙ sym i.3

pub returns-then-stands_alone-clause-small : goal.returns-then-stands_alone-clause-small
returns-then-stands_alone-clause-small c =
    let i = c.few_digits-n.ensures in
    let small = below 18 c.few_digits-n.result.1 c.args.text.now i.2 i.0 in
    grind (arith, i.3)

use Rattle.std.proofs.Common.{arith}
use Rattle.city_reader.proofs.Turns.{key, text_comma, text_end}
use Rattle.city_reader.proofs.plain.text.Goals as goal

pub returns-in-58 : goal.returns-in-58
returns-in-58 c p may =
    key c.args.cursor.now c.string.new.self c.peek.new.self c.in_ok-text.text.now p c.in_ok-text.ensures
    c.peek.ensures.same may c.skip.new.self (omega (arith, c.peek.ensures.value, c.in-58.is), c.skip.ensures)

pub returns-in-44 : goal.returns-in-44
returns-in-44 c p may =
    text_comma c.args.cursor.now c.string.new.self c.peek.new.self c.in_ok-text.text.now p c.in_ok-text.ensures
    c.peek.ensures.same may c.skip-in-44.new.self
    (omega (arith, c.peek.ensures.value, c.in-44.is), c.skip-in-44.ensures)

pub returns-in-93 : goal.returns-in-93
returns-in-93 c p may =
    text_end c.args.cursor.now c.string.new.self c.peek.new.self c.in_ok-text.text.now p c.in_ok-text.ensures
    c.peek.ensures.same may (grind arith)

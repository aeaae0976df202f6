use Rattle.std.proofs.Common.{arith}
use Rattle.city_reader.proofs.Turns.{after_comma_comes}
use Rattle.city_reader.proofs.plain.after_value.Goals as goal

pub returns-then-peek-eq44 : goal.returns-then-peek-eq44
returns-then-peek-eq44 c =
    after_comma_comes c.args.cursor.now c.peek.new.self c.skip.new.self c.peek.ensures.same
    (omega (arith, c.peek.ensures.value), c.skip.ensures)

use Rattle.std.proofs.Common.{arith}
use Rattle.city_reader.proofs.Turns.{object, array}
use Rattle.city_reader.proofs.plain.begin.Goals as goal

pub returns-in-123 : goal.returns-in-123
returns-in-123 c p may =
    object c.args.cursor.now c.skip.new.self p (omega (arith, c.requires, c.in-123.is), c.skip.ensures) may

pub returns-in-91 : goal.returns-in-91
returns-in-91 c p may =
    array c.args.cursor.now c.skip-in-91.new.self p (omega (arith, c.requires, c.in-91.is), c.skip-in-91.ensures) may

use Rattle.std.proofs.Common.{arith}
use Rattle.city_reader.proofs.Turns.{object_end, array_end}
use Rattle.city_reader.proofs.plain.close.Goals as goal

pub returns-then-first-eq125 : goal.returns-then-first-eq125
returns-then-first-eq125 c p may =
    object_end c.args.cursor.now c.skip.new.self p _ (grind arith, c.skip.ensures) c.after_value-place.ensures may

pub returns-else-first-eq125 : goal.returns-else-first-eq125
returns-else-first-eq125 c p may =
    array_end c.args.cursor.now c.skip.new.self p _ (grind arith, c.skip.ensures) c.after_value-place.ensures may

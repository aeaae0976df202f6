use Rattle.std.proofs.Common.{refl, arith}
use Rattle.city_reader.proofs.Turns.{after_comma_comes}
use Rattle.city_reader.proofs.plain.after_whole.Goals as goal

pub returns-then-next-eq44 : goal.returns-then-next-eq44
returns-then-next-eq44 c =
    after_comma_comes c.args.cursor.now c.args.cursor.now c.skip.new.self refl (omega arith, c.skip.ensures)

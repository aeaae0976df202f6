use Rattle.city_decimals.proofs.Prelude.{refl, changed}
use Rattle.city_decimals.proofs.Copied.{string_copied}
use Rattle.city_decimals.proofs.Directions.{string_changed}
use Rattle.city_decimals.proofs.compact.leaves.copy_string.Goals as goal

pub returns-clause-copied : goal.returns-clause-copied
returns-clause-copied c =
    string_copied (changed c.args.way) (string_changed c.args.way) c.args.depth c.args.copier.now c.take.new.self
    c.pass_inside.new.self c.in_ok-_inside._inside.now (c.if-not-take.ensures.taken refl)
    c.in_ok-_inside.ensures.moves

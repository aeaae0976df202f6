use Rattle.city_decimals.proofs.Prelude.{true, false, refl, null, boolean, changed}
use Rattle.city_decimals.proofs.Copied.{name_copied, some_weaker}
use Rattle.city_decimals.proofs.Directions.{boolean_changed, null_changed}
use Rattle.city_decimals.proofs.compact.leaves.copy_name.Goals as goal

pub returns-in-116-clause-copied : goal.returns-in-116-clause-copied
returns-in-116-clause-copied c =
    some_weaker c.pass.result (λ _ moves. name_copied (changed c.args.way) c.args.depth c.args.copier.now
    c.pass.new.self (boolean true) tt refl (boolean_changed c.args.way true) moves) c.pass.ensures.moves

pub returns-in-102-clause-copied : goal.returns-in-102-clause-copied
returns-in-102-clause-copied c =
    some_weaker c.pass-in-102.result (λ _ moves. name_copied (changed c.args.way) c.args.depth c.args.copier.now
    c.pass-in-102.new.self (boolean false) tt refl (boolean_changed c.args.way false) moves)
    c.pass-in-102.ensures.moves

pub returns-in_default-clause-copied : goal.returns-in_default-clause-copied
returns-in_default-clause-copied c =
    some_weaker c.pass-in_default.result (λ _ moves. name_copied (changed c.args.way) c.args.depth c.args.copier.now
    c.pass-in_default.new.self null tt refl (null_changed c.args.way) moves) c.pass-in_default.ensures.moves

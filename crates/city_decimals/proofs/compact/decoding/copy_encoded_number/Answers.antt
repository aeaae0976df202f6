use Rattle.city_decimals.proofs.Copied.{encoded_copied, some_weaker}
use Rattle.city_decimals.proofs.compact.decoding.copy_encoded_number.Goals as goal

pub returns-clause-copied : goal.returns-clause-copied
returns-clause-copied c =
    some_weaker c.skip-2.result (λ _ moves. encoded_copied c.args.depth c.args.copier.now c.skip.new.self
    c.pass_number.new.self c.skip-2.new.self c.if-depth-eq0.false c.in_ok-skip.ensures.moves
    c.in_ok-pass_number.ensures.moves moves) c.skip-2.ensures.moves

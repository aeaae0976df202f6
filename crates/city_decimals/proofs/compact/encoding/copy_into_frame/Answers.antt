use Rattle.city_decimals.proofs.Copied.{some_weaker}
use Rattle.city_decimals.proofs.CompactForms.{frame_put}
use Rattle.city_decimals.proofs.compact.encoding.copy_into_frame.Goals as goal

pub returns-clause-copied : goal.returns-clause-copied
returns-clause-copied c =
    some_weaker c.insert-2.result (λ _ last. frame_put c.args.depth c.args.copier.now c.insert.new.self
    c.pass.new.self c.encode_triple.new.copier c.pass-2.new.self c.encode_triple-2.new.copier c.pass-3.new.self
    c.insert-2.new.self c.if-depth-lt2.false c.in_ok-insert.ensures.moves c.in_ok-pass.ensures.moves
    c.in_ok-encode_triple.ensures.triple c.in_ok-pass-2.ensures.moves c.in_ok-encode_triple-2.ensures.triple
    c.in_ok-pass-3.ensures.moves last) c.insert-2.ensures.moves

use Rattle.city_lines.proofs.Prelude.{Some, ◌∙◌}
use Rattle.city_lines.proofs.Begun.{line_ended}
use Rattle.city_lines.proofs.told.append_saved.Goals as goal

pub returns : goal.returns
returns c =
    c.in_ok-line.ensures
    ∙ line_ended c.args.bytes.items (Some c.args.hand.now) c.args.tag.now c.in_ok-out.out c.write_number.new.out _
    c.in_ok-out.ensures
    c.in_ok-write_number.ensures.before c.in_ok-write_number.ensures.tokens

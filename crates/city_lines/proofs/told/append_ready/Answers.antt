use Rattle.city_lines.proofs.Prelude.{None, ◌∙◌}
use Rattle.city_lines.proofs.Begun.{line_ended}
use Rattle.city_lines.proofs.told.append_ready.Goals as goal

pub returns : goal.returns
returns c =
    c.in_ok-line.ensures
    ∙ line_ended c.args.bytes.items None None c.in_ok-out.out c.write_ready.new.out _ c.in_ok-out.ensures
    c.in_ok-write_ready.ensures.before c.in_ok-write_ready.ensures.tokens

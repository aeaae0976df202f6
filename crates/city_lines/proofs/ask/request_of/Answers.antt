use Rattle.city_lines.proofs.Prelude.{rules}
use Rattle.city_lines.proofs.ask.request_of.Goals as goal

pub returns-in_ok-act_of-in-Do : goal.returns-in_ok-act_of-in-Do
returns-in_ok-act_of-in-Do c = c.in_ok-act_of-in-Do.ensures c.args.request (search rules) (search rules)

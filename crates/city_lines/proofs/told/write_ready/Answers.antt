use Rattle.city_lines.proofs.Parts.{on_ok, of_three}
use Rattle.city_lines.proofs.told.write_ready.Goals as goal

pub returns-clause-tokens : goal.returns-clause-tokens
returns-clause-tokens c =
    on_ok c.write_number-2.result c.write_number-2.ensures.tokens (λ last.
    rw (last, c.in_ok-write_number.ensures.tokens, c.in_ok-write_text.ensures.tokens)
    (of_three c.args.out.now.tokens _ _ _))

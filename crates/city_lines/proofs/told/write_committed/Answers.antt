use Rattle.city_lines.proofs.Parts.{on_ok, of_six}
use Rattle.city_lines.proofs.told.write_committed.Goals as goal

pub returns-clause-tokens : goal.returns-clause-tokens
returns-clause-tokens c =
    on_ok c.end_object.result c.end_object.ensures.ok (λ last.
    rw (
      last,
      c.in_ok-write_number.ensures.tokens,
      c.in_ok-write_text-2.ensures.tokens,
      c.in_ok-write_text.ensures.tokens,
      c.in_ok-begin_object.ensures.ok,
      c.in_ok-key.ensures.ok,
    )
    (of_six c.args.out.now.tokens _ _ _ _ _ _))

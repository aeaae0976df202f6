use Rattle.city_lines.proofs.Prelude.{◌∙◌, ◌++◌, ap, codes, tokens_of_members}
use Rattle.serde_json.specs.Data.{object}
use Rattle.city_lines.specs.Told.{one, words_members}
use Rattle.city_lines.proofs.Parts.{of_four}
use Rattle.city_lines.proofs.error.write_engine_fault.Goals as goal

pub returns-clause-tokens : goal.returns-clause-tokens
returns-clause-tokens c =
    let old = c.args.out.now.tokens in
    rw (
      c.in_ok-end_object.ensures.ok,
      c.in_ok-write_words.ensures.tokens,
      c.in_ok-begin_object.ensures.ok,
      c.in_ok-key.ensures.ok,
    )
    (of_four old _ _ _ _
    ∙ ap (λ w. old ++ tokens_of_members (one (codes "error") (object (words_members c.args.line w))))
    c.engine_words.ensures)

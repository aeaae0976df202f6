use Rattle.city_program.proofs.Prelude.{◌∙◌}
use Rattle.city_program.specs.Programs.{is_explained}
use Rattle.city_program.proofs.Telling.{told_fault}
use Rattle.city_program.proofs.program.tell_unanswered.Goals as goal

pub returns-clause-told : goal.returns-clause-told
returns-clause-told g c =
    let told = c.tell_fault.ensures.told in (
      told.0,
      told_fault (is_explained c.args.terminal c.args.asked.now) c.args.fault c.as_str.result.now told.0
          (λ plain. c.as_str.ensures.value ∙ c.behind_line-behind.ensures plain) told.1,
      told.2,
    )

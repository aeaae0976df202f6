use Rattle.city_scheduler.proofs.Prelude.{refl, ap, sym, ◌∙◌, is_refusal}
use Rattle.city_scheduler.specs.RepliesValue.{RepliesValue}
use Rattle.city_scheduler.proofs.AttemptSteps.{replied, waits, dies, refused, unheard}
use Rattle.city_txn.specs.declared.txn_core.Step.TheVariants as steps
use Rattle.city_scheduler.proofs.attempt.run_command.Goals as goal

pub returns-in-Ok : goal.returns-in-Ok
returns-in-Ok c changes =
    replied c.requires.goes_on c.in-Ok-Done.ensures
    (c.in-Ok-Done.field-0-is ∙ ap (λ r. steps.Done r) (sym c.in-Ok.ensures.ok.0)) c.requires.opened
    (ap is_refusal c.in-Ok.ensures.ok.0 ∙ c.in-Ok.ensures.ok.1)
    (ap (λ (rs : RepliesValue). record { phase = c.args.progress.now.phase; replies = rs }) c.add.ensures)

pub returns-in-Err-unless_refused : goal.returns-in-Err-unless_refused
returns-in-Err-unless_refused c changes =
    refused c.requires.goes_on c.in-Ok-Done.ensures c.in-Ok-Done.field-0-is c.in-Err-unless_refused.ensures.err
    c.roll_back.ensures c.len-number.ensures refl

pub returns-in-Ok-Wait : goal.returns-in-Ok-Wait
returns-in-Ok-Wait c changes =
    waits c.requires.goes_on c.in-Ok-Wait.ensures c.in-Ok-Wait.field-0-is c.requires.opened refl

pub returns-in-Ok-Die : goal.returns-in-Ok-Die
returns-in-Ok-Die c changes =
    dies c.requires.goes_on c.in-Ok-Die.ensures c.in-Ok-Die.field-0-is c.roll_back-in-Ok-Die.ensures c.die.ensures

pub returns-in-Err : goal.returns-in-Err
returns-in-Err c changes =
    unheard c.requires.goes_on c.in-Err.ensures c.roll_back-in-Err.ensures c.len-number.ensures refl

use Rattle.city_locks.proofs.Prelude.{◌∙◌, sym, rules, Ok, Granted}
use Rattle.city_locks.proofs.LocksAsked.{asked_granted, asked_refused, asked_failed}
use Rattle.city_locks.proofs.lock_table.LockTable.ask_each.Goals as goal

pub returns-in_err-answer : goal.returns-in_err-answer
returns-in_err-answer c =
    let failed = c.in_err-answer.ensures in
    c.loop-id.invariant c.from_residual.result c.ask.new.self (rw c.in-Some.ensures.steps
    (asked_failed c.from_residual.ensures.0 failed.err failed.memory.0 failed.memory.1))

pub returns-in-Wait : goal.returns-in-Wait
returns-in-Wait c =
    let told = c.in_ok-answer.ensures in
    c.loop-id.invariant (Ok c.in_ok-answer.answer) c.ask.new.self (rw c.in-Some.ensures.steps
    (asked_refused told.answer (search rules) told.refused told.wait_die))

pub loop-id-preserved : goal.loop-id-preserved
loop-id-preserved c r w asked =
    let told = c.in_ok-answer.ensures in
    let granted = sym told.answer ∙ c.in-Granted.is in
    c.loop-id.invariant r w (rw c.in-Some.ensures.steps (asked_granted (record { modes = told.granted granted }) granted
    c.ask.ensures.lawful c.ask.ensures.own asked))

pub returns : goal.returns
returns c = c.loop-id.invariant (Ok Granted) c.loop-id.self (search rules)

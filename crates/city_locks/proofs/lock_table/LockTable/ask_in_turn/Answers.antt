use Rattle.city_locks.proofs.Prelude.{◌∙◌, sym, rules}
use Rattle.city_locks.proofs.LocksAsked.{asked_granted, asked_refused}
use Rattle.city_locks.proofs.lock_table.LockTable.ask_in_turn.Goals as goal

pub returns-in-Wait : goal.returns-in-Wait
returns-in-Wait c =
    let told = c.in_ok-answer.ensures in
    asked_refused told.answer (search rules) told.refused told.wait_die

pub returns-in-Granted : goal.returns-in-Granted
returns-in-Granted c =
    let told = c.in_ok-answer.ensures in
    let granted = sym told.answer ∙ c.in-Granted.is in
    asked_granted (record { modes = told.granted granted }) granted c.ask.ensures.lawful c.ask.ensures.own
    c.ask_each.ensures

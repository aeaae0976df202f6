use Rattle.city_txn.proofs.Prelude.{◌∙◌, true, false, sym, refl}
use Rattle.city_txn.specs.internal.Prelude.{Wait, Die}
use Rattle.city_txn.proofs.ActDone.{Call, not_open_acted, asked_failed, asked_refused, may_perform, perform_failed}
use Rattle.city_txn.proofs.ActDone.{performed}
use Rattle.city_txn.proofs.txn_core.Core.act.Goals.{After-lock}
use Rattle.city_txn.proofs.txn_core.Core.act.Goals as goal

pub returns-then-not-is_open : goal.returns-then-not-is_open
returns-then-not-is_open c =
    not_open_acted {was_open = false} {a = c.self.inside} (record {
      core = c.self.invariant;
      known = c.self.view_is;
      opened = sym c.is_open.ensures.opened ∙ c.if-not-is_open.true;
      no_end = c.requires;
    }) refl

call : (c : After-lock) → Call c.args.stamp c.args.command.now true c.self.inside c.args.self.now
call c = record {
  core = c.self.invariant;
  known = c.self.view_is;
  opened = sym c.is_open.ensures.opened ∙ c.if-not-is_open.false;
  no_end = c.requires;
}

pub invariant_of-self : goal.invariant_of-self
invariant_of-self c = (asked_failed (call (goal.at.invariant_of-self c).After-lock) refl c.in_default.ensures).core

pub returns-in_default : goal.returns-in_default
returns-in_default c = (asked_failed (call (goal.at.returns-in_default c).After-lock) refl c.in_default.ensures).acted

pub invariant_of-self-in-Wait : goal.invariant_of-self-in-Wait
invariant_of-self-in-Wait c =
    (asked_refused (call (goal.at.invariant_of-self-in-Wait c).After-lock) refl c.in-Ok.ensures Wait c.in-Wait.is
    refl).core

pub returns-in-Wait : goal.returns-in-Wait
returns-in-Wait c =
    (asked_refused (call (goal.at.returns-in-Wait c).After-lock) refl c.in-Ok.ensures Wait c.in-Wait.is refl).acted

pub invariant_of-self-in-Die : goal.invariant_of-self-in-Die
invariant_of-self-in-Die c =
    (asked_refused (call (goal.at.invariant_of-self-in-Die c).After-lock) refl c.in-Ok.ensures Die c.in-Die.is
    refl).core

pub returns-in-Die : goal.returns-in-Die
returns-in-Die c =
    (asked_refused (call (goal.at.returns-in-Die c).After-lock) refl c.in-Ok.ensures Die c.in-Die.is refl).acted

pub perform-requires-clause-may : goal.perform-requires-clause-may
perform-requires-clause-may c =
    may_perform (call (goal.at.perform-requires-clause-may c).After-lock) refl c.in-Ok.ensures c.in-Granted.is

pub invariant_of-self-in_default-perform : goal.invariant_of-self-in_default-perform
invariant_of-self-in_default-perform c =
    (perform_failed (call (goal.at.invariant_of-self-in_default-perform c).After-lock) refl c.in-Ok.ensures
    c.in-Granted.is c.in_default-perform.ensures).core

pub returns-in_default-perform : goal.returns-in_default-perform
returns-in_default-perform c =
    (perform_failed (call (goal.at.returns-in_default-perform c).After-lock) refl c.in-Ok.ensures c.in-Granted.is
    c.in_default-perform.ensures).acted

pub invariant_of-self-2 : goal.invariant_of-self-2
invariant_of-self-2 c =
    (performed (call (goal.at.invariant_of-self-2 c).After-lock) refl c.in-Ok.ensures c.in-Granted.is
    c.in-Ok-perform.ensures).core

pub returns : goal.returns
returns c =
    (performed (call (goal.at.returns c).After-lock) refl c.in-Ok.ensures c.in-Granted.is c.in-Ok-perform.ensures).acted

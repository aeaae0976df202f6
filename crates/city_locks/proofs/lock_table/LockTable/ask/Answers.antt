use Rattle.city_locks.proofs.Prelude.{rules, ◌∙◌, sym}
use Rattle.city_locks.proofs.Tables.{Adds, mode_added, lawful_added, own_added, once_added}
use Rattle.city_locks.proofs.Once.{wait_die_seen}
use Rattle.city_locks.proofs.lock_table.LockTable.ask.Goals as goal

pub invariant_of-self : goal.invariant_of-self
invariant_of-self c =
    let adds : Adds c.self.inside.holders.entries c.acquire.new.holders.entries c.args.stamp c.args.id.now c.args.mode =
    record { holders = c.in_ok-acquire.ensures.ok } in
    record {
      lawful = lawful_added adds c.self.invariant.lawful (sym c.at-there.ensures.answer ∙ c.in-Granted.is);
      listed = c.acquire.ensures.listed;
      once = once_added adds c.self.invariant.once;
    }

pub returns-in_ok-acquire : goal.returns-in_ok-acquire
returns-in_ok-acquire c =
    let adds : Adds c.self.inside.holders.entries c.acquire.new.holders.entries c.args.stamp c.args.id.now c.args.mode =
    record { holders = c.in_ok-acquire.ensures.ok } in
    record {
      answer = search rules;
      wait_die = wait_die_seen c.self.view_is (c.self.invariant.once c.args.id.now) c.at-there.ensures.answer;
      granted = λ h. rw (← c.self.view_is) (mode_added adds);
      holders = λ h q. search rules;
      own = rw (← c.self.view_is) (own_added adds);
      refused = λ h. search rules;
      err = tt;
      memory = tt;
      lawful = lawful_added adds c.self.invariant.lawful (sym c.at-there.ensures.answer ∙ c.in-Granted.is);
      once = once_added adds c.self.invariant.once;
    }

pub returns-in_default-clause-wait_die : goal.returns-in_default-clause-wait_die
returns-in_default-clause-wait_die c =
    wait_die_seen c.self.view_is (c.self.invariant.once c.args.id.now) c.at-there.ensures.answer

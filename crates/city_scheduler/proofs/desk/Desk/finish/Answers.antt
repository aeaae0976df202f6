use Rattle.city_scheduler.proofs.Prelude.{refl, arith, false≢true}
use Rattle.city_scheduler.proofs.Opened.{ends_of_all, all_have_ends}
use Rattle.city_scheduler.proofs.desk.Desk.finish.Goals as goal

pub returns-then-len-clause-ended : goal.returns-then-len-clause-ended
returns-then-len-clause-ended g c = (
  λ e. absurd (false≢true e),
  λ all.
      let mine = rw (← c.self.view_is) at all in
      absurd (omega (arith, ends_of_all c.self.invariant.0 c.self.invariant.1 mine)),
)

pub returns-clause-ended : goal.returns-clause-ended
returns-clause-ended g c =
    let mine = all_have_ends c.self.invariant.0 c.self.invariant.1 (omega arith) in
    (λ _. rw (← c.self.view_is) mine, λ _. refl)

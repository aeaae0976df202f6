use Rattle.city_scheduler.proofs.Prelude.{refl, sym, false≢true, Outcome}
use Rattle.city_scheduler.proofs.AttemptSteps.{gave_up}
use Rattle.city_scheduler.proofs.attempt.commit.Goals as goal

pub returns-in-Ok-Some-clause-ended : goal.returns-in-Ok-Some-clause-ended
returns-in-Ok-Some-clause-ended g c =
    let refused = rw c.in-Ok-Some.field-0-is at c.in-Ok-Some.ensures.refused in
    let over = c.roll_back-in-Ok-Some.ensures.over in
    gave_up (Outcome.Refused _ _) refl (refl, refused) (λ e _. absurd (false≢true (sym e))) over.closed over.keeps
    c.roll_back-in-Ok-Some.ensures.city

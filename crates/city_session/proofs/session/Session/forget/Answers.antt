use Rattle.city_session.proofs.Recorded.{forgotten, seen_forgotten}
use Rattle.city_session.proofs.session.Session.forget.Goals as goal

pub invariant_of-self : goal.invariant_of-self
invariant_of-self c =
    forgotten c.self.invariant c.args.stamp c.roll_back.ensures.over.keeps c.roll_back.ensures.over.closed
    c.take-forgotten.ensures.left c.roll_back.ensures.city

pub returns : goal.returns
returns c = seen_forgotten c.self.view_is c.take-forgotten.ensures.left c.roll_back.ensures

use Rattle.city_session.proofs.Recorded.{opened_city}
use Rattle.city_session.proofs.session.Session.open.Goals as goal

pub invariant_of-result : goal.invariant_of-result
invariant_of-result c =
    rw (c.of.ensures, c.nothing.ensures, c.new.ensures, c.open.ensures) (opened_city c.args.city c.requires)

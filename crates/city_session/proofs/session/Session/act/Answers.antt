use Rattle.std.proofs.Common.{sym, ◌∙◌}
use Rattle.city_session.proofs.Recorded.{act_answered, seen_acted, seen_open}
use Rattle.city_session.proofs.session.Session.act.Goals as goal

pub act-requires-clause-there : goal.act-requires-clause-there
act-requires-clause-there c =
    sym (c.self.invariant.opened c.args.stamp) ∙ seen_open c.self.view_is c.args.stamp c.requires.opened

pub act-requires-clause-opened : goal.act-requires-clause-opened
act-requires-clause-opened c = seen_open c.self.view_is c.args.stamp c.requires.opened

pub invariant_of-self : goal.invariant_of-self
invariant_of-self c =
    act_answered c.args.stamp c.args.command.now _ c.act.result c.self.invariant c.act.ensures.answered
    c.act.ensures.grows

pub returns : goal.returns
returns c =
    seen_acted c.self.view_is c.args.stamp c.args.command.now c.act.new.core c.act.result c.act.ensures.answered
    c.act.ensures.grows c.act.ensures.full

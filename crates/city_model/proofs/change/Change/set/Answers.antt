use Rattle.city_model.proofs.Prelude.{ap, ◌∙◌, changed, Change, after_change}
use Rattle.city_model.proofs.ChangeLaws.{written_more}
use Rattle.city_model.proofs.change.Change.set.Goals as goal

pub returns-clause-map : goal.returns-clause-map
returns-clause-map c m =
    written_more c.self.inside.writes.entries c.insert.new.self.entries c.args.id c.args.object c.self.invariant
    c.insert.ensures.ordered c.in_ok-insert.ensures.updates.0 m
    ∙ ap (λ (ws : Change). changed (after_change m ws) c.args.id c.args.object) c.self.view_is

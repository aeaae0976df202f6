use Rattle.city_model.proofs.Prelude.{◌≡◌, subst, Change, after_change}
use Rattle.std.specs.Option.{unwrap_or}
use Rattle.city_model.specs.Writing.{write_in}
use Rattle.city_model.proofs.ChangeLaws.{at_change}
use Rattle.city_model.proofs.change.Change.iter.Goals as goal

pub returns-clause-map : goal.returns-clause-map
returns-clause-map c m q =
    subst (λ (ws : Change). after_change m ws q ≡ unwrap_or (write_in ws q) (m q)) c.self.view_is
    (at_change c.self.inside.writes.entries m q c.self.invariant)

use Rattle.city_board.proofs.Prelude.{sym, subst, object_at, IsLawful, Version}
use Rattle.city_board.proofs.look.Look.city.Goals as goal

pub returns-clause-lawful : goal.returns-clause-lawful
returns-clause-lawful c =
    subst (λ (x : Version). IsLawful (object_at x.city.1)) (sym c.get.ensures) c.self.invariant.1.lawful

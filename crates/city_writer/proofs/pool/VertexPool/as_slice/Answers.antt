use Rattle.city_writer.proofs.Prelude.{rules}
use Rattle.city_writer.proofs.pool.NumberedAt.{distinct_alike}
use Rattle.city_writer.proofs.pool.VertexPool.as_slice.Goals as goal

pub returns-clause-distinct : goal.returns-clause-distinct
returns-clause-distinct c =
    rw (← c.self.view_is) (distinct_alike _ c.as_slice.ensures.unique (λ a b. search rules))

use Rattle.city_writer.proofs.Prelude.{sym, refl, ◌∙◌}
use Rattle.std.proofs.lemmas.Option.{slice_get_read}
use Rattle.city_writer.proofs.pool.NumberedAt.{number_at}
use Rattle.city_writer.proofs.pool.is_numbered.Goals as goal

pub returns-in-Some-clause-number : goal.returns-in-Some-clause-number
returns-in-Some-clause-number c same =
    let points = c.args.points.now in
    let there = c.in-Some.there.now in
    let at = c.in-Some.ensures.lookup in
    sym (number_at points c.args.number there c.args.point.now c.requires (λ a b. refl)
    (slice_get_read points _ c.args.number there refl at.3.0 at.1) (sym c.is_same.ensures ∙ same))

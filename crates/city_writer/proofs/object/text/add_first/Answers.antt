use Rattle.city_writer.proofs.Prelude.{◌∙◌}
use Rattle.city_writer.proofs.object.WrittenObjects.{first_added}
use Rattle.city_writer.proofs.object.text.add_first.Goals as goal

pub objects-preserved : goal.objects-preserved
objects-preserved c =
    let l = c.objects in
    l.invariant ∙ first_added l.count l.left c.next.new.self _ l.pool _ c.objects-test.true c.in-Some.ensures.steps
    c.in_ok-add_points.ensures

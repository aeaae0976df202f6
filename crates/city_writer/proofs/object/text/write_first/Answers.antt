use Rattle.city_writer.proofs.Prelude.{◌++◌, ◌∷◌, [], refl, ap, ◌∙◌, key, object_points}
use Rattle.std.proofs.Common.{take, ◌-◌}
use Rattle.city_writer.proofs.object.WrittenObjects.{object_written, take_first}
use Rattle.city_writer.proofs.pool.Walks.{walk_first}
use Rattle.city_writer.proofs.object.text.write_first.Goals as goal

pub objects-preserved : goal.objects-preserved
objects-preserved c =
    let l = c.objects in
    let steps = c.in-Some.ensures.steps in
    let more = take (l.count - 1) c.next.new.self in
    let left = take_first l.count l.left _ _ c.objects-test.true steps in
    let was = rw left at l.invariant in
    let named = c.in_ok-key.ensures.ok ∙ ap (λ name. l.out.tokens ++ key name ∷ []) c.as_str.ensures in
    let one = c.in_ok-write_object.ensures in (
      was.0 ∙ walk_first (λ e. object_points e.1) (c.in-Some.id.now, c.in-Some.object.now) more _ _ one.pool,
      one.before ∙ c.key.ensures.room.0 ∙ was.1,
      object_written (take c.args.count c.args.left) (take l.count l.left) more c.in-Some.id.now _ l.pool _
          c.args.out.now.tokens l.out.tokens _ _ left one.pool l.invariant.2 named one.tokens,
      λ pool small rest. was.3 pool small (one.reads pool small, rest),
      was.4 ∙ rw one.kept refl,
    )

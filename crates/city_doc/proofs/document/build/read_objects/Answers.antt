use Rattle.city_doc.proofs.Prelude.{◌∙◌, YieldsList-from_vec, collected, ordered_members}
use Rattle.std.proofs.lemmas.List.{append-nil}
use Rattle.city_doc.proofs.document.ReadObjects.{begins, goes_on, ends}
use Rattle.city_doc.proofs.document.build.read_objects.Goals as goal

pub loop-name-init : goal.loop-name-init
loop-name-init c =
    let given = c.into_iter-name-iterator.ensures.into_iter_gives in
    rw (given.0, c.in_ok-listed.ensures.items) (begins c.args.points.now c.args.members.entries given.5)

pub loop-name-preserved : goal.loop-name-preserved
loop-name-preserved c =
    let was = rw c.in-Some.ensures.steps at c.loop-name.invariant in
    rw (c.in_ok-push.ensures.items, c.new.ensures) (goes_on c.args.points.now _ _ (c.in-Some.name, c.in-Some.value) _
    c.in_ok-object.object c.in_ok-object.ensures was)

pub returns-clause-read : goal.returns-clause-read
returns-clause-read c =
    let done = c.loop-name.listed in
    let was = rw c.in-None.ensures.steps.0 at c.loop-name.invariant in
    let made = collected done.items _ _ c.in_ok-objects.was c.collect.ensures.ran (YieldsList-from_vec done.items
    c.into_iter.ensures.rest (c.into_iter.ensures.len ∙ done.ok.0)) (rw append-nil at was.sorted) in
    made ∙ ends c.args.points.now _ done.items was

pub returns-clause-ordered : goal.returns-clause-ordered
returns-clause-ordered c =
    ordered_members c.args.members.entries c.into_iter-name-iterator.ensures.into_iter_gives.5

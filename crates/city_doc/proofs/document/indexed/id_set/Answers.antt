use Rattle.city_doc.proofs.Prelude.{refl, ids_left}
use Rattle.city_doc.proofs.document.IdSets.{starts, goes_on, ends}
use Rattle.city_doc.proofs.document.indexed.id_set.Goals as goal

pub loop-id-init : goal.loop-id-init
loop-id-init c =
    rw c.into_iter-id-iterator.ensures.into_iter_gives (starts (ids_left c.args.ids) _ c.new-set.ensures.empty)

pub loop-id-preserved-then-once : goal.loop-id-preserved-then-once
loop-id-preserved-then-once c =
    let was = rw c.in-Some.ensures.steps at c.loop-id.invariant in
    let updates = rw c.in_ok-copy.ensures at c.in_ok-is_new.ensures.updates in
    goes_on _ _ _ _ _ _ _ updates.0 (rw c.if-once.true (rw c.in_ok-copy.ensures at c.in_ok-is_new.ensures.added)) was

pub loop-id-preserved : goal.loop-id-preserved
loop-id-preserved c =
    let was = rw c.in-Some.ensures.steps at c.loop-id.invariant in
    let updates = rw c.in_ok-copy.ensures at c.in_ok-is_new.ensures.updates in
    goes_on _ _ _ _ _ _ _ updates.0 (rw c.if-once.false refl) was

pub returns : goal.returns
returns c =
    let was = rw c.in-None.ensures.steps.0 at c.loop-id.invariant in
    ends (ids_left c.args.ids) c.loop-id.set.keys c.loop-id.once was

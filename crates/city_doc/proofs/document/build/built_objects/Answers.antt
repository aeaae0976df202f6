use Rattle.city_doc.proofs.Prelude.{Some, sym, ap, ◌∙◌, YieldsList-from_vec, collected}
use Rattle.std.proofs.lemmas.List.{append-nil}
use Rattle.city_doc.proofs.document.ReadObjects.{building_begins, building_goes_on, building_stops, building_ends}
use Rattle.city_doc.proofs.document.build.built_objects.Goals as goal

pub loop-id-init : goal.loop-id-init
loop-id-init c =
    let given = c.into_iter-id-iterator.ensures.into_iter_gives in
    rw (given.0, c.in_ok-listed.ensures.items) (building_begins c.args.objects.entries c.len.ensures.ordered)

pub loop-id-preserved : goal.loop-id-preserved
loop-id-preserved c =
    let was = rw c.in-Some.ensures.steps at c.loop-id.invariant in
    rw c.in_ok-push.ensures.items (building_goes_on _ _ c.in-Some.id c.in-Some.read _
    c.in-Some-built_object.object (sym c.built_object.ensures ∙ c.in-Some-built_object.is) was)

pub returns-in_default : goal.returns-in_default
returns-in_default c =
    let was = rw c.in-Some.ensures.steps at c.loop-id.invariant in
    building_stops _ _ c.in-Some.id c.in-Some.read _ (sym c.built_object.ensures ∙ c.in_default.is) was

pub returns : goal.returns
returns c =
    let done = c.loop-id.listed in
    let was = rw c.in-None.ensures.steps.0 at c.loop-id.invariant in
    let made = collected done.items _ _ c.in_ok-objects.was c.collect.ensures.ran (YieldsList-from_vec done.items
    c.into_iter.ensures.rest (c.into_iter.ensures.len ∙ done.ok.0)) (rw append-nil at was.sorted) in
    ap Some made ∙ building_ends _ done.items was

use Rattle.city_doc.proofs.Prelude.{sym, ◌∙◌, view-Object}
use Rattle.city_doc.proofs.object.LenientObjects.{lenient_missing, lenient_read}
use Rattle.city_doc.proofs.document.build.lenient_object_of.Goals as goal

pub returns-in_default-2 : goal.returns-in_default-2
returns-in_default-2 c =
    let is_object = rw c.in-Some.is at (sym c.into_object.ensures) in
    let is_body = rw view-Object at (sym c.in_ok-body.ensures) in
    lenient_missing c.args.points.now _ _ _ _ _ _ is_object c.take.ensures.found c.take.ensures.left
    c.take-2.ensures.found c.take-2.ensures.left (is_body ∙ c.in_default-2.is)

pub returns : goal.returns
returns c =
    let is_object = rw c.in-Some.is at (sym c.into_object.ensures) in
    let is_body = rw view-Object at (sym c.in_ok-body.ensures) in
    rw c.in_ok-shared.ensures
    (lenient_read c.args.points.now _ _ _ _ _ _ is_object c.take.ensures.found c.take.ensures.left
    c.take-2.ensures.found c.take-2.ensures.left c.in-Some-2.body _ _ (is_body ∙ c.in-Some-2.is)
    c.in_ok-parents.ensures c.in_ok-children.ensures)

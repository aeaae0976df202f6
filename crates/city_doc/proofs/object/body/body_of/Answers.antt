use Rattle.city_doc.proofs.Prelude.{sym, ap, ◌∙◌, view, kept_at_object, without, codes, kept_if}
use Rattle.city_doc.proofs.object.ReadBodies.{geometry_stays, body_missing, body_unkept, body_read}
use Rattle.city_doc.proofs.object.body.body_of.Goals as goal

pub returns-in_default-2 : goal.returns-in_default-2
returns-in_default-2 c =
    let is_object = rw c.in-Some-into_object.is at (sym c.into_object.ensures) in
    let stays = geometry_stays (view c.args.object) _ _ _ is_object c.take.ensures.left c.take-2.ensures.found in
    body_missing c.args.points.now (view c.args.object) _ _ (sym c.type_of.ensures ∙ c.in-Some.is) is_object
    (rw stays (sym c.in_ok-geometry.ensures ∙ c.in_default-2.is))

pub returns-in_default-kept : goal.returns-in_default-kept
returns-in_default-kept c =
    let is_object = rw c.in-Some-into_object.is at (sym c.into_object.ensures) in
    let stays = geometry_stays (view c.args.object) _ _ _ is_object c.take.ensures.left c.take-2.ensures.found in
    let left = c.take-2.ensures.left ∙ ap (without (codes "geometry")) c.take.ensures.left in
    let none = sym c.kept.ensures ∙ c.in_default-kept.is in
    body_unkept c.args.points.now (view c.args.object) _ _ (sym c.type_of.ensures ∙ c.in-Some.is) is_object
    c.in-Some-2.geometry
    (rw stays (sym c.in_ok-geometry.ensures ∙ c.in-Some-2.is))
    (ap (λ ms. kept_if kept_at_object (without (codes "children") (without (codes "parents") ms))) (sym left) ∙ none)

pub returns : goal.returns
returns c =
    let is_object = rw c.in-Some-into_object.is at (sym c.into_object.ensures) in
    let stays = geometry_stays (view c.args.object) _ _ _ is_object c.take.ensures.left c.take-2.ensures.found in
    let left = c.take-2.ensures.left ∙ ap (without (codes "geometry")) c.take.ensures.left in
    let others = sym c.kept.ensures ∙ c.in-Some-kept.is in
    rw c.in_ok-shared.ensures
    (sym (body_read c.args.points.now (view c.args.object) _ _ (sym c.type_of.ensures ∙ c.in-Some.is) is_object _ _
    (rw stays (sym c.in_ok-geometry.ensures ∙ c.in-Some-2.is))
    (ap (λ ms. kept_if kept_at_object (without (codes "children") (without (codes "parents") ms))) (sym left)
    ∙ others)))

use Rattle.city_texts.proofs.Prelude.{Some, sym, ap, ap₂, ◌∙◌, arith, members_view, objects_of, points_of}
use Rattle.city_tokens.proofs.document.Listings.{listed_again, faultless_city}
use Rattle.city_tokens.proofs.document.BuiltFrames.{vertices_read, city_read}
use Rattle.city_texts.proofs.document.city_of.Goals as goal

pub returns : goal.returns
returns c parts found resolved so =
    let objects = c.in_ok-objects in
    let points = points_of resolved.0 in
    let v = rw resolved.2 at so.vertices in
    let o = rw resolved.3 at so.objects in
    let listed = objects.ensures.entries points resolved.1 o.2.0 resolved.4 o.2.2 in
    let read = city_read found (members_view c.args.rest.entries) o.2.0 v.0 points
    objects.objects.entries c.in_ok-frame.frame so.extra (grind arith) v.1
    (vertices_read resolved.0 v.0 v.2) (o.1 ∙ ap Some o.2.1) listed (grind arith) in
    let made = c.from_parts.ensures in
    let again = sym (ap objects_of made.entries) ∙ listed_again c.from_parts.result.1 in
    let faultless = faultless_city _ objects.objects.entries made.entries
    (objects.ensures.faultless points resolved.1 resolved.4) in
    (read ∙ ap₂ (λ f os. Some (f, os)) (sym made.frame) again, faultless)

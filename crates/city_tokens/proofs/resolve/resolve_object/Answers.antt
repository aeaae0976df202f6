use Rattle.city_tokens.proofs.Prelude.{◌≡◌, Body, IsGeometry, IsResolved, points_of, IsArrayOf, geometry_of, list_of}
use Rattle.city_tokens.proofs.Prelude.{ap}
use Rattle.city_tokens.proofs.Options.{given}
use Rattle.city_tokens.proofs.ResolvedParts.{object_resolved}
use Rattle.city_tokens.proofs.resolve.resolve_object.Goals as goal

pub returns-clause-resolved : goal.returns-clause-resolved
returns-clause-resolved c d is =
    let o = c.args.object in
    let geometry = c.resolve_positions.new.self in
    let read = c.into_parts-body.result.0 in
    let own : read ≡ o.body = ap (λ parts. parts.0) c.into_parts-body.ensures in
    let resolved : IsResolved (IsArrayOf IsGeometry) (list_of (geometry_of (points_of c.args.vertices.now)))
    o.body.geometry geometry = rw own at c.in_ok-resolve_positions.ensures in
    let put : Body → Body = λ b. record { kind = b.kind; geometry = geometry; extra = b.extra } in
    let shared : c.in_ok-body.body ≡ put read = given c.new.result c.ok.result c.in_ok-body.body
    (λ b. b ≡ put read) c.ok.ensures.value c.in_ok-body.was c.new.ensures in
    rw (shared, c.into_parts-body.ensures) (object_resolved _ o geometry resolved d is)

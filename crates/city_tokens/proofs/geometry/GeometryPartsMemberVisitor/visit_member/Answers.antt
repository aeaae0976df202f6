use Rattle.city_tokens.proofs.Prelude.{ap, Some, string}
use Rattle.city_tokens.proofs.Members.{geometry_kind, geometry_lod, geometry_boundaries, geometry_kept}
use Rattle.city_tokens.proofs.geometry.GeometryPartsMemberVisitor.visit_member.Goals as goal

pub returns-else-is_name-3 : goal.returns-else-is_name-3
returns-else-is_name-3 c = geometry_kept c.if-is_name.ensures c.if-is_name-2.ensures c.if-is_name-3.ensures

pub returns-in_ok-of_name : goal.returns-in_ok-of_name
returns-in_ok-of_name c =
    let name = c.in_ok-name in
    geometry_kind c.if-is_name.ensures
    (string name.name.now, name.ensures c.args.depth, ap Some c.in_ok-of_name.ensures.named)

pub returns-in_ok-lod : goal.returns-in_ok-lod
returns-in_ok-lod c = geometry_lod c.if-is_name-2.ensures c.in_ok-lod.ensures

pub returns-in_ok-boundaries : goal.returns-in_ok-boundaries
returns-in_ok-boundaries c = geometry_boundaries c.if-is_name-3.ensures c.in_ok-boundaries.ensures

use Rattle.city_tokens.proofs.Prelude.{sym, ◌∙◌, string}
use Rattle.city_tokens.proofs.Members.{object_kind, object_geometry, object_parents, object_children}
use Rattle.city_tokens.proofs.Members.{object_attributes, object_kept}
use Rattle.city_tokens.proofs.object.ObjectPartsMemberVisitor.visit_member.Goals as goal

pub returns-else-is_name-5 : goal.returns-else-is_name-5
returns-else-is_name-5 c =
    object_kept c.if-is_name.ensures c.if-is_name-2.ensures c.if-is_name-3.ensures c.if-is_name-4.ensures
    c.if-is_name-5.ensures

pub returns-in_ok-type_named : goal.returns-in_ok-type_named
returns-in_ok-type_named c =
    let name = c.in_ok-name in
    let is = sym c.type_named.ensures ∙ c.in_ok-type_named.was in
    object_kind c.if-is_name.ensures (string name.name.now, name.ensures c.args.depth, is)

pub returns-in_ok-geometry : goal.returns-in_ok-geometry
returns-in_ok-geometry c = object_geometry c.if-is_name-2.ensures c.in_ok-geometry.ensures

pub returns-in_ok-parents : goal.returns-in_ok-parents
returns-in_ok-parents c = object_parents c.if-is_name-3.ensures c.in_ok-parents.ensures

pub returns-in_ok-children : goal.returns-in_ok-children
returns-in_ok-children c = object_children c.if-is_name-4.ensures c.in_ok-children.ensures

pub returns-in_ok-attributes : goal.returns-in_ok-attributes
returns-in_ok-attributes c = object_attributes c.if-is_name-5.ensures c.in_ok-attributes.ensures

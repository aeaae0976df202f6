use Rattle.city_texts.proofs.TopMembers.{top_objects, top_vertices, top_kept}
use Rattle.city_texts.proofs.in_pieces.TopInPiecesMemberVisitor.visit_member.Goals as goal

pub returns-in_default : goal.returns-in_default
returns-in_default c = top_kept c.in_default.not-CityObjects c.in_default.not-vertices

pub returns-in_ok-objects-in-CityObjects : goal.returns-in_ok-objects-in-CityObjects
returns-in_ok-objects-in-CityObjects c =
    rw c.if-depth.false (top_objects c.in-CityObjects.is c.in_ok-objects-in-CityObjects.ensures)

pub returns-in_ok-vertices-in-vertices : goal.returns-in_ok-vertices-in-vertices
returns-in_ok-vertices-in-vertices c =
    rw c.if-depth.false (top_vertices c.in-vertices.is c.in_ok-vertices-in-vertices.ensures)

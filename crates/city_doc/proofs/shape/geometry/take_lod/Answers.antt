use Rattle.city_doc.proofs.Prelude.{rules, ◌≡◌, refl, ap, ◌∙◌, option_and_then, codes, as_str, get_member, members_view}
use Rattle.city_doc.proofs.Prelude.{get_member-without}
use Rattle.city_doc.proofs.shape.geometry.take_lod.Goals as goal

pub returns-clause-found : goal.returns-clause-found
returns-clause-found c =
    let stays : get_member (codes "lod") (members_view c.take.new.members.entries) ≡ get_member (codes "lod")
    (members_view c.args.members.now.entries) =
    ap (get_member (codes "lod")) c.take.ensures.left
    ∙ get_member-without (codes "lod") (codes "type") (members_view c.args.members.now.entries) refl in
    let found = ap (option_and_then as_str) (c.take-2.ensures.found ∙ stays) in search rules

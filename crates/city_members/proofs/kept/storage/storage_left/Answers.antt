use Rattle.city_members.proofs.Prelude.{◌≡◌, ◌∙◌, ap, arith, sym, true, None, members_view}
use Rattle.serde_json.specs.Find.{get_member}
use Rattle.city_members.specs.Attributes.{attributes, with_attributes}
use Rattle.city_members.specs.Kept.{has_no_member}
use Rattle.city_members.proofs.KeptIn.{none_left, without_absent}
use Rattle.city_members.proofs.kept.storage.storage_left.Goals as goal

pub returns-then-is_none : goal.returns-then-is_none
returns-then-is_none c =
    let others = members_view c.deref.result.now.entries in
    let none : get_member attributes others ≡ None =
    grind (arith, c.member.ensures, c.is_none.ensures, c.if-is_none.true) in
    let empty : has_no_member c.args.left ≡ true = grind (arith, c.is_empty.ensures, c.if-not-is_empty.false) in
    ap (λ map. members_view map.entries) (c.in_ok-clone.ensures.cases ∙ sym c.deref.ensures)
    ∙ sym (without_absent attributes others none) ∙ sym (none_left others c.args.left empty)
    ∙ ap (λ map. with_attributes (members_view map.entries) c.args.left) c.deref.ensures

use Rattle.city_members.proofs.Prelude.{◌≡◌, ◌∙◌, ap, subst, sym}
use Rattle.city_members.specs.Members.{AreOrdered, without}
use Rattle.city_members.specs.internal.KeptValues.{members_data}
use Rattle.city_members.proofs.KeptLists.{data_left, without_free}
use Rattle.city_members.proofs.MemberLists.{ordered_without}
use Rattle.city_members.proofs.kept.shared_members.SharedMembers.without.Goals as goal

pub returns-in_default : goal.returns-in_default
returns-in_default c =
    sym c.self.view_is ∙ without_free c.self.inside.tree c.args.name.now c.in_default.field-0 c.in_default.ensures.free
    ∙ ap (without c.args.name.now) c.self.view_is

left : (c : goal.In_ok-tree) → members_data c.in_ok-tree.tree ≡ without c.args.name.now (members_data c.self.inside.tree)
left c =
    ap members_data c.in_ok-tree.ensures ∙ data_left c.self.inside.tree c.args.name.now c.in-Ok.at c.in-Ok.ensures.found

pub invariant_of-result : goal.invariant_of-result
invariant_of-result c = subst AreOrdered (sym (left c)) (ordered_without c.args.name.now _ c.self.invariant)

pub returns : goal.returns
returns c = left c ∙ ap (without c.args.name.now) c.self.view_is

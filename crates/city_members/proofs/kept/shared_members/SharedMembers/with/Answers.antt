use Rattle.city_members.proofs.Prelude.{◌≡◌, ◌∙◌, ap, string_bytes, subst, sym}
use Rattle.serde_json.specs.Data.{put}
use Rattle.city_members.specs.Members.{AreOrdered}
use Rattle.city_members.specs.internal.KeptValues.{members_data, value_data}
use Rattle.city_members.proofs.MemberLists.{ordered_put}
use Rattle.city_members.proofs.kept.shared_members.SharedMembers.with.Goals as goal

all : (c : goal.In_ok-tree) → members_data c.in_ok-tree.tree
    ≡ put (string_bytes c.args.name) (value_data c.args.value) (members_data c.self.inside.tree)
all c =
    c.in_ok-tree.ensures
    ∙ ap (λ m. put (string_bytes m.0) (value_data m.1) (members_data c.self.inside.tree)) c.in_ok-member.ensures

pub invariant_of-result : goal.invariant_of-result
invariant_of-result c =
    subst AreOrdered (sym (all c)) (ordered_put (string_bytes c.args.name) (value_data c.args.value) _ c.self.invariant)

pub returns : goal.returns
returns c = all c ∙ ap (put (string_bytes c.args.name) (value_data c.args.value)) c.self.view_is

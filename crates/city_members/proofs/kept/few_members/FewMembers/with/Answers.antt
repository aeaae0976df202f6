use Rattle.city_members.proofs.Prelude.{◌≡◌, ◌∙◌, ◌++◌, ◌∷◌, ap, arith, drop, refl, string_bytes, subst, sym, take}
use Rattle.serde_json.specs.Data.{put}
use Rattle.city_members.specs.Members.{AreOrdered, without}
use Rattle.city_members.specs.internal.MemberPlaces.{IsPlaceFor}
use Rattle.city_members.specs.internal.KeptValues.{value_data, members_data}
use Rattle.city_members.proofs.AttributeLaws.{put-without}
use Rattle.city_members.proofs.KeptLists.{put_free}
use Rattle.city_members.proofs.MemberLists.{ordered_put}
use Rattle.city_members.proofs.kept.few_members.FewMembers.with.Goals as goal

all : (c : goal.In_ok-insert) → members_data c.insert.new.self.items
    ≡ put (string_bytes c.args.name) (value_data c.args.value) c.args.self
all c =
    let left = c.clear-at.new.members.items in
    let at = c.clear-at.result in
    let name = string_bytes c.args.name in
    let inserted : c.insert.new.self.items ≡ take at left ++ (c.args.name, c.args.value) ∷ drop at left = grind arith in
    ap members_data inserted
    ∙ put_free left name at (c.args.name, c.args.value) refl
    (subst (λ n. IsPlaceFor left n at) c.as_str.ensures.value c.clear-at.ensures.place)
    ∙ ap (put name (value_data c.args.value))
    (c.clear-at.ensures.left ∙ ap (λ n. without n (members_data c.self.inside.members.items)) c.as_str.ensures.value
    ∙ ap (without name) c.self.view_is)
    ∙ put-without name (value_data c.args.value) c.args.self (subst AreOrdered c.self.view_is c.self.invariant)

pub invariant_of-result : goal.invariant_of-result
invariant_of-result c =
    let name = string_bytes c.args.name in
    subst AreOrdered (sym (all c))
    (ordered_put name (value_data c.args.value) c.args.self (subst AreOrdered c.self.view_is c.self.invariant))

pub returns : goal.returns
returns c = all c

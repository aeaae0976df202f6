use Rattle.city_members.proofs.Prelude.{◌≡◌, ◌∙◌, ℕ, [], ap, arith, drop, map, rules, subst, sym, take}
use Rattle.std.proofs.lemmas.List.{drop_all, take_all}
use Rattle.serde_json.specs.View.{items_of}
use Rattle.city_members.specs.Members.{AreOrdered}
use Rattle.city_members.specs.internal.KeptValues.{value_data, members_data}
use Rattle.city_members.specs.internal.MemberLists.{joined}
use Rattle.city_members.proofs.KeptLists.{next_pair_pushed}
use Rattle.city_members.proofs.MemberLists.{joined-none}
use Rattle.city_members.proofs.kept.+copy.Goals as goal

pub few_members::FewMembers::copied-loop-name-preserved : goal.few_members::FewMembers::copied-loop-name-preserved
few_members::FewMembers::copied-loop-name-preserved t c =
    let es = c.deref-name-items.result.now in
    search (rules, next_pair_pushed c.loop-name.members.items es c.loop-name.name-index c.loop-name-item.result)

all : (t : ℕ) (c : goal.few_members::FewMembers::copied-After-loop-name t)
    → members_data c.loop-name.members.items ≡ members_data c.self.inside.members.items
all t c =
    let es = c.deref-name-items.result.now in
    let over : drop c.loop-name.name-index es ≡ [] = drop_all _ es (omega (arith, c.loop-name-test.false)) in
    sym (joined-none _) ∙ ap (λ xs. joined (members_data c.loop-name.members.items) (members_data xs)) (sym over)
    ∙ c.loop-name.invariant ∙ ap (λ xs. members_data xs) c.deref-name-items.ensures.value

pub few_members::FewMembers::copied-invariant_of-result : goal.few_members::FewMembers::copied-invariant_of-result
few_members::FewMembers::copied-invariant_of-result t c = subst AreOrdered (sym (all t c)) c.self.invariant

pub few_members::FewMembers::copied-returns : goal.few_members::FewMembers::copied-returns
few_members::FewMembers::copied-returns t c = all t c ∙ c.self.view_is

pub kept_items::KeptItems::copied-returns : goal.kept_items::KeptItems::copied-returns
kept_items::KeptItems::copied-returns t c =
    let vs = c.deref-item-items.result.now in
    let all : take c.loop-item.item-index vs ≡ vs = take_all _ vs (omega (arith, c.loop-item-test.false)) in
    ap items_of (c.loop-item.invariant ∙ ap (map value_data) (all ∙ c.deref-item-items.ensures.value)) ∙ c.self.view_is

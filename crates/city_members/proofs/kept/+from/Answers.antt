use Rattle.city_members.proofs.Prelude.{◌≡◌, ◌∙◌, ◌++◌, ◌∷◌, [], ap, append-nil, arith, map}
use Rattle.city_members.proofs.Prelude.{members_view, no_members, rules, subst, sym}
use Rattle.std.proofs.lemmas.List.{nil_from_length}
use Rattle.std.specs.Vec.Iter.{into_iter_items}
use Rattle.serde_json.specs.View.{view, items_of}
use Rattle.city_members.specs.Members.{AreOrdered}
use Rattle.city_members.specs.internal.KeptValues.{value_data, members_data}
use Rattle.city_members.specs.internal.MemberLists.{joined}
use Rattle.city_members.proofs.KeptLists.{next_pushed, pair_last}
use Rattle.city_members.proofs.MemberLists.{joined-none}
use Rattle.city_members.proofs.kept.+from.Goals as goal

pub few_members::FewMembers::from_map-loop-name-preserved : goal.few_members::FewMembers::from_map-loop-name-preserved
few_members::FewMembers::from_map-loop-name-preserved t c = search (rules, pair_last)

pub few_members::FewMembers::from_map-invariant_of-result : goal.few_members::FewMembers::from_map-invariant_of-result
few_members::FewMembers::from_map-invariant_of-result t c =
    let last : joined (members_data c.loop-name.members.items) no_members ≡ members_view c.args.map.entries =
    search rules in
    subst AreOrdered (sym last ∙ joined-none _) c.members_count-count.ensures.ordered

pub few_members::FewMembers::from_map-returns : goal.few_members::FewMembers::from_map-returns
few_members::FewMembers::from_map-returns t c =
    let last : joined (members_data c.loop-name.members.items) no_members ≡ members_view c.args.map.entries =
    search rules in
    sym (joined-none _) ∙ last

pub kept_items::KeptItems::from_values-loop-value-preserved :
    goal.kept_items::KeptItems::from_values-loop-value-preserved
kept_items::KeptItems::from_values-loop-value-preserved t c =
    let items = c.loop-value.items.items in
    let pushed : c.push.new.self.items ≡ items ++ c.in_ok-item.item ∷ [] = grind arith in
    ap (λ xs. map value_data xs ++ map view (into_iter_items c.next.new.self)) pushed
    ∙ next_pushed value_data view items c.in_ok-item.item c.in-Some.value _ _ c.in-Some.ensures.steps.0 c.in_ok-item.ensures
    ∙ c.loop-value.invariant

pub kept_items::KeptItems::from_values-returns : goal.kept_items::KeptItems::from_values-returns
kept_items::KeptItems::from_values-returns t c =
    let done = map value_data c.loop-value.items.items in
    let over : into_iter_items c.loop-value.value-iterator ≡ [] =
    nil_from_length _ (grind (arith, c.in-None.ensures.steps.0)) in
    ap items_of (sym (append-nil done) ∙ ap (λ vs. done ++ map view vs) (sym over) ∙ c.loop-value.invariant)

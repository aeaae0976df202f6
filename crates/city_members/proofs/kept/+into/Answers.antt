use Rattle.city_members.proofs.Prelude.{◌≡◌, ◌≤◌, ◌∙◌, ◌++◌, ◌∷◌, [], ap, append-nil, arith, map, members_view, rules}
use Rattle.city_members.proofs.Prelude.{string_bytes, subst, sym}
use Rattle.serde_json.specs.Data.{member, put}
use Rattle.std.proofs.lemmas.List.{nil_from_length}
use Rattle.std.specs.Vec.Iter.{into_iter_items}
use Rattle.serde_json.specs.View.{view, items_of}
use Rattle.city_members.specs.Members.{AreOrdered}
use Rattle.city_members.specs.internal.KeptValues.{value_data, members_data, data_size, items_size, members_size}
use Rattle.city_members.specs.internal.MemberLists.{joined}
use Rattle.city_members.proofs.KeptLists.{item_within, member_within, next_pushed}
use Rattle.city_members.proofs.MemberLists.{joined-none, put_last}
use Rattle.city_members.proofs.kept.+into.Goals as goal

pub kept_items::KeptItems::into_values-loop-item-preserved : goal.kept_items::KeptItems::into_values-loop-item-preserved
kept_items::KeptItems::into_values-loop-item-preserved t c =
    let values = c.loop-item.values.items in
    let pushed : c.push.new.self.items ≡ values ++ c.in_ok-value.value ∷ [] = grind arith in
    ap items_of (ap (λ xs. map view xs ++ map value_data (into_iter_items c.next.new.self)) pushed
    ∙ next_pushed view value_data values c.in_ok-value.value c.in-Some.item _ _ c.in-Some.ensures.steps.0 c.in_ok-value.ensures)
    ∙ c.loop-item.invariant

pub kept_items::KeptItems::into_values-returns : goal.kept_items::KeptItems::into_values-returns
kept_items::KeptItems::into_values-returns t c =
    let done = map view c.loop-item.values.items in
    let over : into_iter_items c.loop-item.item-iterator ≡ [] =
    nil_from_length _ (grind (arith, c.in-None.ensures.steps.0)) in
    ap items_of (sym (append-nil done) ∙ ap (λ vs. done ++ map value_data vs) (sym over)) ∙ c.loop-item.invariant

pub kept_items::KeptItems::into_values-into_value-requires : goal.kept_items::KeptItems::into_values-into_value-requires
kept_items::KeptItems::into_values-into_value-requires t c =
    let values = map view c.loop-item.values.items in
    let item = value_data c.in-Some.item in
    let left = map value_data (into_iter_items c.next.new.self) in
    let is : items_of (values ++ item ∷ left) ≡ c.args.self =
    ap (λ vs. items_of (values ++ map value_data vs)) (sym c.in-Some.ensures.steps.0) ∙ c.loop-item.invariant in
    let within = subst (λ ds. data_size item ≤ items_size ds) is (item_within values item left) in
    search (rules, within)

pub few_members::FewMembers::into_map-into_value-requires : goal.few_members::FewMembers::into_map-into_value-requires
few_members::FewMembers::into_map-into_value-requires t c =
    let map = members_view c.loop-name.map.entries in
    let name = string_bytes c.in-Some.name in
    let value = value_data c.in-Some.value in
    let left = members_data (into_iter_items c.next.new.self) in
    let is : joined map (member name value left) ≡ c.args.self =
    ap (λ ms. joined map (members_data ms)) (sym c.in-Some.ensures.steps.0) ∙ c.loop-name.invariant.1 in
    let within = subst (λ ms. data_size value ≤ members_size ms) is (member_within map name value left) in
    search (rules, within)

pub few_members::FewMembers::into_map-loop-name-init : goal.few_members::FewMembers::into_map-loop-name-init
few_members::FewMembers::into_map-loop-name-init t c = (
  subst AreOrdered c.self.view_is c.self.invariant,
  rw c.new-map.ensures.empty
      (ap members_data c.into_iter-name-iterator.ensures.into_iter_gives.0 ∙ c.self.view_is),
)

pub few_members::FewMembers::into_map-loop-name-preserved : goal.few_members::FewMembers::into_map-loop-name-preserved
few_members::FewMembers::into_map-loop-name-preserved t c =
    let map = members_view c.loop-name.map.entries in
    let left = members_data (into_iter_items c.next.new.self) in
    let is : joined map (member (string_bytes c.in-Some.name) (value_data c.in-Some.value) left) ≡ c.args.self =
    ap (λ ms. joined map (members_data ms)) (sym c.in-Some.ensures.steps.0) ∙ c.loop-name.invariant.1 in
    let done : members_view c.put.new.members.entries
    ≡ put (string_bytes c.in-Some.name) (value_data c.in-Some.value) map =
    c.in_ok-put.ensures ∙ ap (λ d. put (string_bytes c.in-Some.name) d map) c.in_ok-value.ensures in (
      c.loop-name.invariant.0,
      ap (λ ms. joined ms left) done
          ∙ put_last (string_bytes c.in-Some.name) (value_data c.in-Some.value) map left
          (subst AreOrdered (sym is) c.loop-name.invariant.0)
          ∙ is,
    )

pub few_members::FewMembers::into_map-returns : goal.few_members::FewMembers::into_map-returns
few_members::FewMembers::into_map-returns t c =
    let map = members_view c.loop-name.map.entries in
    let over : into_iter_items c.loop-name.name-iterator ≡ [] =
    nil_from_length _ (grind (arith, c.in-None.ensures.steps.0)) in
    sym (joined-none map) ∙ ap (λ ms. joined map (members_data ms)) (sym over) ∙ c.loop-name.invariant.1

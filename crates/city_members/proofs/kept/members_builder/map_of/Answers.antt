use Rattle.city_members.proofs.Prelude.{◌≡◌, ◌∙◌, [], ap, arith, member, string_bytes, subst, sym}
use Rattle.std.proofs.lemmas.List.{nil_from_length}
use Rattle.std.specs.Vec.Iter.{into_iter_items}
use Rattle.serde_json.specs.Data.{put}
use Rattle.city_members.specs.Members.{AreOrdered}
use Rattle.city_members.specs.internal.KeptValues.{value_data, members_data}
use Rattle.city_members.specs.internal.MemberLists.{joined}
use Rattle.city_members.proofs.KeptLists.{data_inserted}
use Rattle.city_members.proofs.MemberLists.{joined-none, put_last}
use Rattle.city_members.proofs.kept.members_builder.map_of.Goals as goal

pub loop-name-init : goal.loop-name-init
loop-name-init c = (
  c.into_vec-name-items.ensures.ordered,
  rw c.new-map.ensures.empty
      (ap members_data c.into_iter-name-iterator.ensures.into_iter_gives.0 ∙ c.into_vec-name-items.ensures.members),
)

pub loop-name-preserved : goal.loop-name-preserved
loop-name-preserved c =
    let map = c.loop-name.map.entries in
    let name = string_bytes c.in-Some.name in
    let value = value_data c.in-Some.value in
    let left = members_data (into_iter_items c.next.new.self) in
    let is : joined (members_data map) (member name value left) ≡ c.args.members =
    ap (λ ms. joined (members_data map) (members_data ms)) (sym c.in-Some.ensures.steps.0) ∙ c.loop-name.invariant.1 in
    let done : members_data c.insert.new.self.entries ≡ put name value (members_data map) =
    ap members_data c.in_ok-insert.ensures.entries ∙ data_inserted map c.in-Some.name c.in-Some.value in (
      c.loop-name.invariant.0,
      ap (λ ms. joined ms left) done
          ∙ put_last name value (members_data map) left (subst AreOrdered (sym is) c.loop-name.invariant.0)
          ∙ is,
    )

pub returns : goal.returns
returns c =
    let map = members_data c.loop-name.map.entries in
    let over : into_iter_items c.loop-name.name-iterator ≡ [] =
    nil_from_length _ (grind (arith, c.in-None.ensures.steps.0)) in
    sym (joined-none map) ∙ ap (λ ms. joined map (members_data ms)) (sym over) ∙ c.loop-name.invariant.1

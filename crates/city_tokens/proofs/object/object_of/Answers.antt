use Rattle.city_tokens.proofs.Prelude.{◌≡◌, ◌∙◌, refl, sym, codes, get_member, true, rules, AreOrdered, members_view}
use Rattle.city_tokens.proofs.Prelude.{Some}
use Rattle.city_members.specs.Kept.{object_members, kept_at_object}
use Rattle.city_members.specs.internal.KeptIn.{with_value}
use Rattle.city_tokens.proofs.Members.{own_back, ordered_without}
use Rattle.city_tokens.proofs.tree.Puts.{get_member-without_each}
use Rattle.city_tokens.specs.internal.Objects.{IsType}
use Rattle.city_tokens.specs.internal.Standing.{IsSlot}
use Rattle.city_tokens.specs.object.Bodies.{without_object_members}
use Rattle.city_tokens.specs.tree.Members.{kept_if}
use Rattle.city_tokens.proofs.object.object_of.Goals as goal

pub returns : goal.returns
returns c found h =
    let parts = c.args.parts in
    let made : (c.in_ok-extra.extra ≡ with_value (members_view c.args.kept.entries) parts.attributes)
    × (kept_at_object c.in_ok-extra.extra ≡ true) = search rules in
    let ordered : AreOrdered (without_object_members found) = search (ordered_without, h.ordered) in
    let same = get_member-without_each object_members (codes "attributes") found refl in
    let is : c.in_ok-extra.extra ≡ without_object_members found =
    made.0 ∙ rw h.extra (own_back parts.attributes _ ordered (h.attributes ∙ sym same)) in
    let kind : IsSlot IsType (Some c.in_ok-kind.kind) (get_member (codes "type") found) =
    rw c.in_ok-kind.was at h.kind in
    let kept : kept_if kept_at_object (without_object_members found) ≡ Some c.in_ok-extra.extra =
    rw (← is) (rw made.1 refl) in
    record {
      found = found;
      is = refl;
      kind = rw kind.1 kind.2;
      geometry = rw c.unshared.ensures h.geometry;
      parents = h.parents;
      children = h.children;
      extra = kept;
    }

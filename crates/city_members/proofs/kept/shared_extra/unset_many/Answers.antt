use Rattle.city_members.proofs.Prelude.{◌≡◌, ◌∙◌, Some, ap, arc_value, members_view, option_map, rules, subst, sym}
use Rattle.city_members.proofs.Prelude.{true}
use Rattle.city_members.specs.Attributes.{attributes_in, with_attributes, with_unset}
use Rattle.city_members.specs.Kept.{kept_at_object}
use Rattle.city_members.specs.Members.{AreOrdered, without_each}
use Rattle.city_members.specs.internal.KeptIn.{kept_in, with_own}
use Rattle.city_members.proofs.AttributeLaws.{with_unset_kept}
use Rattle.city_members.proofs.KeptIn.{unset_own, ordered_attributes}
use Rattle.city_members.proofs.kept.shared_extra.unset_many.Goals as goal

pub stored-made-requires : goal.stored-made-requires
stored-made-requires c =
    let others = members_view (arc_value c.args.others.now).entries in
    let all = with_own others c.args.found.now in
    let own = c.in-Some.own in
    let names = c.args.names.now in
    let is : attributes_in all ≡ Some own = search rules in
    let made : kept_in c.in_ok-storage.storage ≡ with_unset all names own =
    c.in_ok-storage.ensures ∙ ap (with_attributes others) c.in_ok-left.ensures
    ∙ unset_own others c.args.found.now names own in
    record {
      kept = subst (λ ms. kept_at_object ms ≡ true) (sym made) (with_unset_kept all names own c.requires.kept is);
      ordered = subst AreOrdered (sym made) (ordered_attributes all (without_each names own) c.requires.ordered);
    }

pub returns : goal.returns
returns c =
    let others = members_view (arc_value c.args.others.now).entries in
    let all = with_own others c.args.found.now in
    let own = c.in-Some.own in
    let names = c.args.names.now in
    let is : attributes_in all ≡ Some own = search rules in
    ap Some
    (c.stored-made.ensures ∙ c.in_ok-storage.ensures ∙ ap (with_attributes others) c.in_ok-left.ensures
    ∙ unset_own others c.args.found.now names own)
    ∙ ap (option_map (with_unset all names)) (sym is)

use Rattle.city_members.proofs.Prelude.{◌≡◌, ◌∙◌, Some, ap, arc_value, members_view, option_map, rules, subst, sym}
use Rattle.city_members.proofs.Prelude.{true}
use Rattle.serde_json.specs.Data.{object, put}
use Rattle.city_members.specs.Attributes.{attributes, attributes_in, put_each, with_set}
use Rattle.city_members.specs.Kept.{kept_at_object}
use Rattle.city_members.specs.Members.{AreOrdered}
use Rattle.city_members.specs.internal.KeptIn.{kept_in, with_own}
use Rattle.city_members.proofs.AttributeLaws.{with_set_kept}
use Rattle.city_members.proofs.KeptIn.{set_own}
use Rattle.city_members.proofs.MemberLists.{ordered_put}
use Rattle.city_members.proofs.kept.shared_extra.set_many.Goals as goal

pub stored-made-requires : goal.stored-made-requires
stored-made-requires c =
    let others = members_view (arc_value c.args.others.now).entries in
    let all = with_own others c.args.found.now in
    let own = c.in-Some.own in
    let named = c.args.named.now in
    let is : attributes_in all ≡ Some own = search rules in
    let made : kept_in c.in_ok-storage.storage ≡ with_set all named own =
    c.in_ok-storage.ensures
    ∙ ap (λ set. put attributes (object set) others)
    (c.in_ok-set.ensures ∙ ap (λ ms. put_each ms own) c.map.ensures.members)
    ∙ set_own others c.args.found.now named own in
    record {
      kept =
          subst (λ ms. kept_at_object ms ≡ true) (sym made)
          (with_set_kept all named own c.requires.kept c.map.ensures.kept is);
      ordered = subst AreOrdered (sym made)
          (ordered_put attributes (object (put_each named own)) all c.requires.ordered);
    }

pub returns : goal.returns
returns c =
    let others = members_view (arc_value c.args.others.now).entries in
    let all = with_own others c.args.found.now in
    let own = c.in-Some.own in
    let named = c.args.named.now in
    let is : attributes_in all ≡ Some own = search rules in
    ap Some
    (c.stored-made.ensures ∙ c.in_ok-storage.ensures
    ∙ ap (λ set. put attributes (object set) others)
    (c.in_ok-set.ensures ∙ ap (λ ms. put_each ms own) c.map.ensures.members)
    ∙ set_own others c.args.found.now named own)
    ∙ ap (option_map (with_set all named)) (sym is)

use Rattle.std.proofs.Common.{◌≡◌, ◌∙◌, [], arith, subst, sym, All}
use Rattle.std.proofs.lemmas.List.{nil_from_length}
use Rattle.std.proofs.lemmas.List.Elements.{All-push}
use Rattle.std.specs.Vec.Iter.{into_iter_items}
use Rattle.city_txn.specs.CoreState.{committed}
use Rattle.city_live.proofs.Followed.{none_alone_of, ids_more, ids_over, ids_all}
use Rattle.city_live.proofs.hands.Hands.committed.Goals as goal

pub loop-id-init : goal.loop-id-init
loop-id-init g c = (
  none_alone_of (λ o. o.1 ≡ committed c.args.self.now.session.core o.0) _ c.in_ok-objects.ensures,
  ids_over _ _ c.in_ok-objects.ensures
      (c.into_iter-id-iterator.ensures.into_iter_gives.0 ∙ c.into_vec-id-items.ensures),
)

pub loop-id-preserved : goal.loop-id-preserved
loop-id-preserved g c = (
  subst (All (λ o. o.1 ≡ committed c.args.self.now.session.core o.0)) (sym c.in_ok-push.ensures.ok)
      (All-push (λ o. o.1 ≡ committed c.args.self.now.session.core o.0) c.loop-id.objects _ c.loop-id.invariant.0
      c.in_ok-object.ensures),
  ids_more c.loop-id.objects _ _ _ _ _ c.in_ok-push.ensures.ok c.in-Some.ensures.steps.0 c.loop-id.invariant.1,
)

pub returns-clause-seen : goal.returns-clause-seen
returns-clause-seen g c = c.loop-id.invariant.0

pub returns-clause-asked : goal.returns-clause-asked
returns-clause-asked g c =
    let over : into_iter_items c.loop-id.id-iterator ≡ [] =
    nil_from_length _ (grind (arith, c.in-None.ensures.steps.0)) in
    ids_all c.loop-id.objects _ _ over c.loop-id.invariant.1

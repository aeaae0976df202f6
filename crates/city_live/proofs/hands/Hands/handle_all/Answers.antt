use Rattle.std.proofs.Common.{◌≡◌, ◌∙◌, ◌++◌, ◌∷◌, [], ap, arith, subst, sym}
use Rattle.std.proofs.lemmas.List.{nil_from_length, append-nil, append_assoc}
use Rattle.std.specs.Vec.Iter.{into_iter_items}
use Rattle.city_live.specs.Serving.{AreHandled, Served, Sent}
use Rattle.city_live.proofs.Handled.{handled_none, handled_more}
use Rattle.city_live.proofs.hands.Hands.handle_all.Goals as goal

pub loop-hand-init : goal.loop-hand-init
loop-hand-init g c = (
  subst (λ (v : Served). AreHandled [] c.take_answers-all.result.items v c.take_answers-all.new.self) c.self.view_is
      (handled_none {s = c.self.inside.talks} {u = c.take_answers-all.new.self} c.take_answers-all.result.items
      c.take_answers-all.ensures.given c.take_answers-all.ensures.session c.take_answers-all.ensures.events
      c.take_answers-all.ensures.answers c.take_answers-all.ensures.noted c.take_answers-all.ensures.first),
  c.into_iter-hand-iterator.ensures.into_iter_gives.0,
)

pub loop-hand-preserved : goal.loop-hand-preserved
loop-hand-preserved g c =
    let item : Sent = (c.in-Some.hand, c.in-Some.tag, c.in-Some.request) in (
      handled_more item c.loop-hand.invariant.0 c.in_ok-answers.ensures.ok c.in_ok-add_all.ensures,
      append_assoc c.loop-hand.yielded (item ∷ []) (into_iter_items c.next.new.self)
          ∙ (ap (λ l. c.loop-hand.yielded ++ l) (sym c.in-Some.ensures.steps.0) ∙ c.loop-hand.invariant.1),
    )

pub returns : goal.returns
returns g c =
    let over : into_iter_items c.loop-hand.hand-iterator ≡ [] =
    nil_from_length _ (grind (arith, c.in-None.ensures.steps.0)) in
    subst (λ l. AreHandled l c.loop-hand.all.items c.args.self.now c.loop-hand.self)
    (sym (append-nil c.loop-hand.yielded) ∙ (ap (λ l. c.loop-hand.yielded ++ l) (sym over) ∙ c.loop-hand.invariant.1))
    c.loop-hand.invariant.0

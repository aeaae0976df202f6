use Rattle.std.proofs.Common.{◌∙◌, refl, subst}
use Rattle.std.proofs.lemmas.List.{take_all}
use Rattle.city_server.proofs.Answering.{adds_next, adds_none}
use Rattle.city_server.specs.Answered.{IsAnswerTold}
use Rattle.city_server.specs.Asked.{EachTold}
use Rattle.city_server.specs.Sessions.{Adds}
use Rattle.city_server.proofs.server.Server.tell_each.Goals as goal

pub loop-answer-init : goal.loop-answer-init
loop-answer-init g c =
    let P = IsAnswerTold c.args.self.now.told.decimals c.args.self.now.told.line c.args.form in
    (adds_none P c.args.self.now.told, refl)

pub loop-answer-preserved : goal.loop-answer-preserved
loop-answer-preserved g c = (
  adds_next (λ d n. IsAnswerTold d n c.args.form) c.args.answers.now c.loop-answer.answer-index c.answer-item.result
      c.loop-answer-test.true c.answer-item.is c.loop-answer.invariant.0 c.in_ok-tell.ensures.told,
  c.tell.ensures.hands ∙ c.loop-answer.invariant.1,
)

pub returns : goal.returns
returns g c = record {
  told = subst
      (λ l. Adds (EachTold (IsAnswerTold c.args.self.now.told.decimals c.args.self.now.told.line c.args.form) l)
      c.args.self.now.told c.loop-answer.self.told)
      (take_all c.loop-answer.answer-index c.args.answers.now c.loop-answer-test.false) c.loop-answer.invariant.0;
  hands = c.loop-answer.invariant.1;
}

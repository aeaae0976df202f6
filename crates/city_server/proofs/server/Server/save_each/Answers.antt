use Rattle.std.proofs.Common.{◌∙◌, ℕ, Bool, subst}
use Rattle.std.proofs.lemmas.List.{take_all}
use Rattle.city_live.specs.declared.answer.Answer.{Answer}
use Rattle.city_server.proofs.Answering.{adds_next}
use Rattle.city_server.specs.Asked.{EachTold, IsSaveTold, model_version}
use Rattle.city_server.specs.Sessions.{Adds}
use Rattle.city_server.proofs.server.Server.save_each.Goals as goal

pub loop-answer-preserved : goal.loop-answer-preserved
loop-answer-preserved g c = (
  adds_next (λ (d : Bool) (n : ℕ) (a : Answer). IsSaveTold d n a (model_version a.what)) c.args.answers.now
      c.loop-answer.answer-index c.answer-item.result c.loop-answer-test.true c.answer-item.is c.loop-answer.invariant.0
      c.in_ok-save_by.ensures.told,
  c.save_by.ensures.hands ∙ c.loop-answer.invariant.1,
)

pub returns-clause-told : goal.returns-clause-told
returns-clause-told g c =
    subst
    (λ l. Adds (EachTold (λ (a : Answer). IsSaveTold c.args.self.now.told.decimals c.args.self.now.told.line a
    (model_version a.what)) l) c.args.self.now.told c.loop-answer.self.told)
    (take_all c.loop-answer.answer-index c.args.answers.now c.loop-answer-test.false) c.loop-answer.invariant.0

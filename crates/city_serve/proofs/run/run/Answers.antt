use Rattle.city_serve.proofs.Prelude.{IfOk-weaker, ◌∙◌, sym, subst, written_by}
use Rattle.std.proofs.Common.{IfOk, true≢false}
use Rattle.city_serve.proofs.run.run.Goals as goal

pub returns-then-options-clause-ran : goal.returns-then-options-clause-ran
returns-then-options-clause-ran g c =
    subst (λ b. IfOk c.run_decimals.result (λ r. written_by b c.args.texts.now.document.bytes.items
    c.args.texts.now.scripts.bytes.items r.0.ends r.0.bytes.items)) (sym c.if-options.true) c.run_decimals.ensures.ran

pub returns-else-options-clause-ran : goal.returns-else-options-clause-ran
returns-else-options-clause-ran g c =
    subst (λ b. IfOk c.run_whole.result (λ r. written_by b c.args.texts.now.document.bytes.items
    c.args.texts.now.scripts.bytes.items r.0.ends r.0.bytes.items)) (sym c.if-options.false) c.run_whole.ensures.ran

pub returns-then-options-clause-city : goal.returns-then-options-clause-city
returns-then-options-clause-city g c =
    IfOk-weaker c.run_decimals.result _ _ (λ r is whole. absurd (true≢false (sym c.if-options.true ∙ whole)))
    c.run_decimals.ensures.ran

pub returns-else-options-clause-city : goal.returns-else-options-clause-city
returns-else-options-clause-city g c =
    IfOk-weaker c.run_whole.result _ _ (λ r is whole. is) c.run_whole.ensures.city

use Rattle.city_scripts.proofs.Prelude.{◌∙◌, sym, refl, view, index_if}
use Rattle.city_scripts.proofs.FirstAt.{first_at-drop, first_at-found, first_at-end}
use Rattle.city_scripts.proofs.faults.first_in.Goals as goal

pub returns-then-judge : goal.returns-then-judge
returns-then-judge g c =
    sym (first_at-found (index_if (g.J.CommandTest.test c.args.vertices)) view _ _ c.loop-i.i _ _ c.loop-i-test.true
    c.index-commands-i.is c.loop-i.invariant (rw (sym c.judge.ensures ∙ c.if-judge.true) refl))

pub loop-i-preserved : goal.loop-i-preserved
loop-i-preserved g c =
    first_at-drop (index_if (g.J.CommandTest.test c.args.vertices)) view _ _ c.loop-i.i _ c.loop-i-test.true
    c.index-commands-i.is c.loop-i.invariant (rw (sym c.judge.ensures ∙ c.if-judge.false) refl)

pub returns : goal.returns
returns g c =
    sym (first_at-end (index_if (g.J.CommandTest.test c.args.vertices)) view _ _ c.loop-i.i c.loop-i-test.false
    c.loop-i.invariant)

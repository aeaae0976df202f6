use Rattle.city_scripts.proofs.Prelude.{sym, refl, index_in}
use Rattle.city_scripts.specs.internal.Forms.{parts_view}
use Rattle.city_scripts.proofs.FirstAt.{first_at-drop, first_at-found, first_at-end}
use Rattle.city_scripts.proofs.faults.first_command.Goals as goal

pub returns-in-Some : goal.returns-in-Some
returns-in-Some g c =
    sym (first_at-found (index_in g.J.CommandTest.test) parts_view _ _ c.loop-n.n _ _ c.loop-n-test.true
    c.index-forms-n.is c.loop-n.invariant
    (rw (← c.vertex_count.ensures, ← c.as_slice.ensures.value, ← c.first_in.ensures, c.in-Some.is) refl))

pub loop-n-preserved : goal.loop-n-preserved
loop-n-preserved g c =
    first_at-drop (index_in g.J.CommandTest.test) parts_view _ _ c.loop-n.n _ c.loop-n-test.true c.index-forms-n.is
    c.loop-n.invariant
    (rw (← c.vertex_count.ensures, ← c.as_slice.ensures.value, ← c.first_in.ensures, c.in_default.is) refl)

pub returns : goal.returns
returns g c =
    sym (first_at-end (index_in g.J.CommandTest.test) parts_view _ _ c.loop-n.n c.loop-n-test.false c.loop-n.invariant)

use Rattle.city_scheduler.proofs.Prelude.{◌≤◌, length, ap, ◌∙◌, subst, arith, AreScripts, unbegun_each, names_of}
use Rattle.std.specs.Prelude.{vec_capacity}
use Rattle.city_scheduler.proofs.Opened.{opened_stands}
use Rattle.city_scheduler.proofs.desk.Desk.open.Goals as goal

pub invariant_of-result : goal.invariant_of-result
invariant_of-result g c =
    let places : length c.into_vec-scripts.result.items ≤ vec_capacity c.in_ok-ends.ends =
    omega (arith, c.in_ok-ends.ensures.capacity, c.len.ensures) in
    opened_stands c.of.ensures c.in_ok-ends.ensures.items
    (c.in_ok-progress.ensures.progress ∙ ap unbegun_each c.as_slice-2.ensures.value) c.open.ensures
    (c.in_ok-names.ensures ∙ ap names_of c.as_slice.ensures.value) c.requires.empty places c.requires.lawful
    (subst AreScripts c.as_slice-2.ensures.value c.in_ok-progress.ensures.scripted) c.requires.based

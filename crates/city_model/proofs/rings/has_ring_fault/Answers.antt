use Rattle.city_model.proofs.Prelude.{◌∙◌, sym, ap, list_any, is_faulty}
use Rattle.city_model.specs.internal.BorrowedBounds.{bounds_view}
use Rattle.city_model.proofs.Joined.{some_surface_by}
use Rattle.city_model.proofs.rings.has_ring_fault.Goals as goal

pub returns-in-Shells : goal.returns-in-Shells
returns-in-Shells c =
    let p = is_faulty c.args.fault in
    c.any_shell.ensures ∙ ap (list_any (list_any p)) c.as_slice-in-Shells.ensures
    ∙ some_surface_by p c.args.shape.now _ (sym (ap bounds_view c.in-Shells.is) ∙ c.bounds.ensures)

pub returns-in-Solids : goal.returns-in-Solids
returns-in-Solids c =
    let p = is_faulty c.args.fault in
    c.any_solid.ensures ∙ ap (list_any (list_any (list_any p))) c.as_slice-in-Solids.ensures
    ∙ some_surface_by p c.args.shape.now _ (sym (ap bounds_view c.in-Solids.is) ∙ c.bounds.ensures)

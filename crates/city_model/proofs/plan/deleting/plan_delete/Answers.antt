use Rattle.city_model.proofs.Prelude.{◌≡◌, ◌∙◌, ◌++◌, List, ℕ, Option, [], ◌∷◌, None, sym, ap, map, length, true, rules}
use Rattle.city_model.proofs.Prelude.{Object, ids_left, Change, unlinked}
use Rattle.std.proofs.Common.{◌==◌}
use Rattle.city_model.proofs.Planned.{delete_writes}
use Rattle.city_model.proofs.plan.deleting.plan_delete.Goals as goal

abbrev first_write : List ℕ → List ℕ × Option Object
first_write id = (id, None)

pub returns : goal.returns
returns g c =
    let m = g.V.ObjectLookup.map c.args.view.now in
    let none : (length c.in-Some.object.now.children == 0) ≡ true = search rules in
    let first : c.push.new.self ≡ first_write c.args.id.now ∷ [] = search rules in
    delete_writes m c.args.id.now c.in-Some.object.now c.unlink_each.new.writes c.requires.sound (sym c.in-Some.ensures)
    none
    (c.in_ok-unlink_each.ensures
    ∙ ap (λ (ws : Change). ws ++ map (unlinked m c.args.id.now) (ids_left c.iter.result)) first
    ∙ ap (λ ids. first_write c.args.id.now ∷ map (unlinked m c.args.id.now) ids) c.iter.ensures)

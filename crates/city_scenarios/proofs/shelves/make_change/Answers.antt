use Rattle.std.proofs.Common.{◌≡◌, ap, sym, ◌∙◌}
use Rattle.city_model.specs.CityMap.{CityValue, object_at}
use Rattle.city_model.specs.Runs.{Change, after_change}
use Rattle.city_scenarios.proofs.shelves.make_change.Goals as goal

pub returns-then-branch : goal.returns-then-branch
returns-then-branch c =
    let m = object_at c.args.city.now.1 in
    let begun : object_at c.in_ok-after.after.1 ≡ after_change m c.new-change.result =
    ap (λ (x : CityValue). object_at x.1) c.in_ok-after.ensures
    ∙ ap (λ (ws : Change). after_change m ws) (sym c.new-change.ensures) in
    c.in_ok-is_made.ensures c.if-branch.true m begun

use Rattle.city_decimals.proofs.Prelude.{◌≤◌, ◌-◌}
use Rattle.city_decimals.specs.internal.Sections.{IsMoved}
use Rattle.city_decimals.proofs.in_place.move_down.Given as goal

abbrev pub invariant-loop-done : goal.invariant-loop-done
invariant-loop-done l =
    record {
      within : l.done ≤ l.count;
      moved : IsMoved l.fn.text l.from l.to l.done l.text;
    }

abbrev pub decreases-loop-done : goal.decreases-loop-done
decreases-loop-done l = l.count - l.done

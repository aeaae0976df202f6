use Rattle.city_scripts.proofs.Prelude.{◌≡◌, ◌++◌, map, drop}
use Rattle.city_scripts.specs.internal.Told.{told_each, numbered_view}
use Rattle.city_scripts.proofs.each_fault.tell_each.Given as goal

abbrev pub invariant-loop-numbered : goal.invariant-loop-numbered
invariant-loop-numbered g l =
    l.initial.faults.items ++ told_each (g.S.Search.found) (map numbered_view l.forms)
    ≡ l.faults.items ++ told_each (g.S.Search.found) (map numbered_view (drop l.numbered-index l.forms))

use Rattle.city_scripts.proofs.Prelude.{◌≡◌, ◌++◌, map, drop, view}
use Rattle.city_scripts.specs.internal.Told.{told, command_at, told_in, numbered_view}
use Rattle.city_scripts.proofs.each_fault.tell_in.Given as goal

-- the faults told, and then those of the remaining commands
abbrev pub invariant-loop-i : goal.invariant-loop-i
invariant-loop-i g l =
    let p = numbered_view l.numbered in
    l.initial.faults.items ++ told_in (g.S.Search.found) p.0 p.1 ≡ l.faults.items
    ++ told (command_at (g.S.Search.found) p.0 p.1) l.i (map view (drop l.i l.command-items))

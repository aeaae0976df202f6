use Rattle.city_scripts.proofs.Prelude.{◌≡◌, ◌++◌, map, into_iter_items, view}
use Rattle.std.specs.Iterator.Adapters.{enumerate_source, enumerate_count}
use Rattle.city_scripts.specs.internal.Told.{bad_scripts, numbered, numbered_view}
use Rattle.city_scripts.proofs.numbered.numbered_forms.Given as goal

-- the ones found, and then the rest
abbrev pub invariant-loop-number : goal.invariant-loop-number
invariant-loop-number l =
    let left = map view (into_iter_items (enumerate_source l.number-iterator)) in
    let n = enumerate_count l.number-iterator in
    let all = map view l.fn.items.items in
    (numbered 0 all ≡ map numbered_view l.forms.items ++ numbered n left)
    × (l.initial.faults.items ++ bad_scripts 0 all ≡ l.faults.items ++ bad_scripts n left)

use Rattle.city_scripts.proofs.Prelude.{◌≡◌, drop, map, view, word_ends}
use Rattle.city_scripts.proofs.parts.word_ends.Given as goal

abbrev pub invariant-loop-i : goal.invariant-loop-i
invariant-loop-i l = word_ends (map view l.trees) ≡ word_ends (map view (drop l.i l.trees))

use Rattle.city_lines.proofs.Prelude.{◌≡◌, ◌++◌, ◌∷◌, map, tokens, string, begin_array}
use Rattle.city_lines.proofs.values.texts_in.Given as goal

abbrev pub invariant-loop : goal.invariant-loop
invariant-loop l = tokens l.text ≡ begin_array ∷ (map string l.found.items ++ l.reader)

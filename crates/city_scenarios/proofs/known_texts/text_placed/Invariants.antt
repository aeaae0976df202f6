use Rattle.std.specs.Prelude.{◌≡◌, drop}
use Rattle.city_scenarios.specs.NamedTexts.{text_at}
use Rattle.city_scenarios.proofs.known_texts.text_placed.Given as goal

abbrev pub invariant-loop-one : goal.invariant-loop-one
invariant-loop-one l = text_at l.placed l.path ≡ text_at (drop l.one-index l.placed) l.path

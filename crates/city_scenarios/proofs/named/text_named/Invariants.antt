use Rattle.std.specs.Prelude.{◌≡◌, drop}
use Rattle.city_scenarios.specs.NamedTexts.{text_at}
use Rattle.city_scenarios.proofs.named.text_named.Given as goal

abbrev pub invariant-loop-named : goal.invariant-loop-named
invariant-loop-named l = text_at l.names l.name ≡ text_at (drop l.named-index l.names) l.name

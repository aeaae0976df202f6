use Rattle.city_scripts.proofs.Prelude.{◌≡◌, drop, list_any, parts_views}
use Rattle.std.specs.Prelude.{nat_lt, length}
use Rattle.city_tokens.specs.script.Scripts.{max_commands}
use Rattle.city_scripts.proofs.parts.are_too_many.Given as goal

abbrev pub invariant-loop-form : goal.invariant-loop-form
invariant-loop-form l =
    list_any (λ p. nat_lt max_commands (length p.commands)) (parts_views l.forms)
    ≡ list_any (λ p. nat_lt max_commands (length p.commands)) (parts_views (drop l.form-index l.forms))

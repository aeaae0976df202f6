-- A script of the first commands of others has no more commands than are read.
use Rattle.std.proofs.Common.{◌≤◌, ◌<◌, ◌∷◌, ◌++◌, List, [], Option, None, Some, length, arith}
use Rattle.std.proofs.lemmas.List.{length-append}
use Rattle.std.specs.Prelude.{slice_get}
use Rattle.city_live.specs.Noting.{firsts, or_no_command}
use Rattle.city_model.specs.Runs.{Scripted}
use Rattle.city_model.specs.declared.command.Command.{Command}
use Rattle.city_model.specs.declared.command.Command.TheVariants.{Commit}
use Rattle.city_tokens.specs.script.Scripts.{max_commands}
use Rattle.city_journal.specs.Steps.{commands_of_steps}

one_at_most : (o : Option Command) → length (or_no_command o) ≤ 1
one_at_most None = omega arith
one_at_most (Some c) = omega arith

firsts_short : (ss : List Scripted) → length (firsts ss) ≤ length ss
firsts_short [] = omega arith
firsts_short (s ∷ ss) =
    omega (
      arith,
      length-append (or_no_command (slice_get s.1 0)) (firsts ss),
      one_at_most (slice_get s.1 0),
      firsts_short ss,
    )

pub steps_short : (ss : List Scripted) → length ss < max_commands → length (commands_of_steps ss) ≤ max_commands
steps_short ss few = omega (arith, length-append (firsts ss) (Commit ∷ []), firsts_short ss)

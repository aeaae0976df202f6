-- An entry of a journal, and what it notes.
use Rattle.std.specs.Prelude.{◌++◌, List, [], ◌∷◌}
use Rattle.city_model.specs.declared.command.Command.{Command}
use Rattle.city_model.specs.declared.command.Command.TheVariants.{Commit}
use Rattle.city_live.specs.declared.journal.Commands.{Commands}
use Rattle.city_live.specs.declared.journal.Commands.TheVariants as commands
use Rattle.city_live.specs.declared.journal.Entry.{Entry}
use Rattle.city_live.specs.Noting.{Noted, firsts}

abbrev pub commands_by : Commands → List Command
commands_by (commands.Script s) = s.now.1
commands_by (commands.Each ss) = firsts ss.now ++ Commit ∷ []

abbrev pub noted_by : Entry → Noted
noted_by e = record { by = e.by.now; name = e.name.now; version = e.version; commands = commands_by e.commands }

-- The script that the first commands of several scripts and a commit make.
use Rattle.std.specs.Prelude.{List, [], ◌∷◌, ◌++◌}
use Rattle.city_model.specs.declared.command.Command.{Command}
use Rattle.city_model.specs.declared.command.Command.TheVariants.{Commit}
use Rattle.city_model.specs.Runs.{Scripted}
use Rattle.city_live.specs.Noting.{firsts}

-- the first command of each, and then a commit
abbrev pub commands_of_steps : List Scripted → List Command
commands_of_steps steps = firsts steps ++ Commit ∷ []

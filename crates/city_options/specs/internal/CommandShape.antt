-- The command line as clap is told of it.
use Rattle.std.specs.Prelude.{true, List, ℕ, codes, Some, []}
use Rattle.clap.specs.Words.{App, Rule, new_rule, with_rule}
use Rattle.clap.specs.Simple.{new_shape}
use Rattle.clap.specs.declared.builder.action.ArgAction.TheVariants.{SetTrue}

-- the command as clap is told of it, without its options: two names of files, and beside help a version
abbrev pub files_command : App
files_command = with_rule (with_rule
    (record { top = record (new_shape (codes "cityed")) { has_version = true }; subs = [] })
    (new_rule (codes "MODEL"))) (new_rule (codes "SCRIPTS"))

-- an option with a value, shown in help by a name
abbrev pub option_rule : List ℕ → Rule
option_rule name = record (new_rule name) { long = Some name; value_names = 1 }

-- an option without a value
abbrev pub flag_rule : List ℕ → Rule
flag_rule name = record (new_rule name) { long = Some name; action = Some SetTrue }

-- the output file: an option with a letter too
abbrev pub output_rule : Rule
output_rule = record (option_rule (codes "output")) { short = Some 111 }

-- the command with the options of a run
abbrev pub run_command : App
run_command =
    with_rule (with_rule (with_rule files_command (flag_rule (codes "decimals"))) (option_rule (codes "workers")))
    (option_rule (codes "watch"))

-- with the options for output
abbrev pub output_command : App
output_command =
    with_rule (with_rule (with_rule (with_rule run_command output_rule) (option_rule (codes "wait")))
    (flag_rule (codes "atomic"))) (flag_rule (codes "report-only"))

-- the command with all its options
abbrev pub cityed_command : App
cityed_command = with_rule (with_rule output_command (flag_rule (codes "explain"))) (flag_rule (codes "check"))

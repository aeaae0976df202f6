-- How the logic stores what contracts see of a journal.
use Rattle.std.specs.Prelude.{refl, Bool, ℕ, List, Option}
use Rattle.std.specs.Coded.{Coded, code_by, coded×, coded_bool, coded_list, coded_option, coded_ℕ}
use Rattle.city_model.specs.contracts.command.Command as command
use Rattle.city_model.specs.declared.command.Command.{Command}
use Rattle.city_live.specs.Noting.{Noted}
use Rattle.city_journal.specs.Journaled.{Journaled}

abbrev pub noted_code : Coded Noted
noted_code =
    code_by (List ℕ × (List ℕ × (ℕ × List Command)))
    (coded× (coded_list coded_ℕ) (coded× (coded_list coded_ℕ) (coded× coded_ℕ (coded_list command.the_row.coded))))
    (λ n. (n.by, (n.name, (n.version, n.commands))))
    (λ p. record { by = p.0; name = p.1.0; version = p.1.1.0; commands = p.1.1.1 }) (λ _. refl)

abbrev pub journaled_code : {F : Type 0} → Coded F → Coded (Journaled F)
journaled_code {F} code =
    code_by (Bool × (Option F × List Noted)) (coded× coded_bool (coded× (coded_option code) (coded_list noted_code)))
    (λ j. (j.decimals, (j.file, j.noted))) (λ p. record { decimals = p.0; file = p.1.0; noted = p.1.1 }) (λ _. refl)

use Rattle.city_scripts.proofs.Prelude.{◌∙◌, sym, is_bad_command, names_bad_vertex}
use Rattle.city_scripts.proofs.FirstFaults.{bad_command-fault, bad_vertex-fault, first_command-none}
use Rattle.city_scripts.proofs.faults.parts_fault.Goals as goal

pub returns-in-Some : goal.returns-in-Some
returns-in-Some c =
    bad_command-fault _ _ _ (sym c.are_too_many.ensures ∙ c.if-are_too_many.false)
    (sym c.first_command.ensures ∙ c.in-Some.is)

pub returns-in-Some-first_command : goal.returns-in-Some-first_command
returns-in-Some-first_command c =
    bad_vertex-fault _ _ _ (sym c.are_too_many.ensures ∙ c.if-are_too_many.false)
    (sym c.first_command.ensures ∙ c.in_default.is) (sym c.first_command-2.ensures ∙ c.in-Some-first_command.is)

pub returns : goal.returns
returns c = (
  sym c.are_too_many.ensures ∙ c.if-are_too_many.false,
  first_command-none (λ count d. is_bad_command d) _ (sym c.first_command.ensures ∙ c.in_default.is),
  first_command-none names_bad_vertex _ (sym c.first_command-2.ensures ∙ c.in_default-first_command.is),
)

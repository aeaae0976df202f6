use Rattle.city_diagnostics.proofs.Prelude.{AreLinesOf, List, inl, inr, subst}
use Rattle.city_scripts.specs.declared.fault.ScriptFault.{ScriptFault}
use Rattle.city_diagnostics.specs.ScriptLines.{TellsScript}
use Rattle.city_scripts.specs.Faults.{ScriptTextFault}
use Rattle.city_diagnostics.proofs.Lines.{first_line, first_told, no_fault, no_line}
use Rattle.city_diagnostics.proofs.check.scripts.check_scripts.Goals as goal

pub returns-clause-lines : goal.returns-clause-lines
returns-clause-lines c =
    let told = subst (λ (fs : List ScriptFault). AreLinesOf TellsScript fs c.in_ok-lines.lines.items)
    c.as_slice.ensures.value c.in_ok-lines.ensures in
    (c.in_ok-faults.faults.items, c.in_ok-faults.ensures.faults, told)

pub returns-clause-accepted : goal.returns-clause-accepted
returns-clause-accepted c =
    let told = subst (λ (fs : List ScriptFault). AreLinesOf TellsScript fs c.in_ok-lines.lines.items)
    c.as_slice.ensures.value c.in_ok-lines.ensures in
    λ empty. c.in_ok-faults.ensures.accepted (no_line TellsScript _ _ told empty)

pub returns-clause-none : goal.returns-clause-none
returns-clause-none c =
    let told = subst (λ (fs : List ScriptFault). AreLinesOf TellsScript fs c.in_ok-lines.lines.items)
    c.as_slice.ensures.value c.in_ok-lines.ensures in
    λ accepted. no_fault TellsScript _ _ told (c.in_ok-faults.ensures.none accepted)

pub returns-clause-first : goal.returns-clause-first
returns-clause-first c =
    let told = subst (λ (fs : List ScriptFault). AreLinesOf TellsScript fs c.in_ok-lines.lines.items)
    c.as_slice.ensures.value c.in_ok-lines.ensures in
    first_told TellsScript (ScriptTextFault c.args.text.now) _ _ told c.in_ok-faults.ensures.first

pub returns-clause-answered : goal.returns-clause-answered
returns-clause-answered c =
    let told = subst (λ (fs : List ScriptFault). AreLinesOf TellsScript fs c.in_ok-lines.lines.items)
    c.as_slice.ensures.value c.in_ok-lines.ensures in
    λ f stands. elim (c.in_ok-faults.ensures.answered f stands) [
      | inl is ↦ inl is
      | inr is ↦ inr (first_line TellsScript _ _ f told is)
    ]

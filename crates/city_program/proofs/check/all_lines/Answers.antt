use Rattle.city_program.proofs.Prelude.{IfSome, List, ServeFault, inr, refl, ◌++◌, ◌∙◌, ap, subst, sym, ℕ}
use Rattle.std.proofs.Common.{Bor, not, option_map, rules}
use Rattle.city_desk.specs.declared.fault.RunFault.{RunFault}
use Rattle.city_program.specs.Checks.{AreScriptsLines, IsCheckOutput, OfFiles}
use Rattle.city_program.proofs.Checked.{Reads, Unread, has_lines, model_and_scripts, read_first, read_second}
use Rattle.city_program.proofs.check.all_lines.Goals as goal

abbrev now : Bor (List ℕ) → List ℕ
now s = s.now

pub returns-clause-lines : goal.returns-clause-lines
returns-clause-lines g c =
    let texts = g.F.TextFiles.text c.args.files.now in
    let scripts = c.in-Some.scripts.now in
    let first = c.in_ok-lines.lines.items in
    let behind = c.in_ok-more.more.items in
    let lines = c.extend_from_slice.new.self.items in
    let faulty = not c.is_empty-faulty-2.result in
    let output = c.extend_from_slice-2.new.self.items in
    let written = c.extend_from_slice.new.self in
    let has = has_lines lines written.len c.is_empty-faulty-2.result written.ok.0 c.is_empty-faulty-2.ensures in
    subst (λ scripts. OfFiles texts c.args.model.now (option_map (λ s. s.now) scripts)
    (λ document commands. IsCheckOutput c.args.decimals document commands faulty output)) (sym c.in-Some.is)
    (model_and_scripts texts c.args.decimals c.args.model.now scripts first behind lines
    c.in_ok-more.warnings.items output faulty c.in_ok-lines.ensures.lines
    (subst (λ folder. IfSome (folder scripts) (λ all. AreScriptsLines c.args.decimals all behind))
    c.model_lines.ensures.texts c.in_ok-more.ensures.lines)
    (c.in_ok-extend_from_slice.ensures.items ∙ ap (λ more. first ++ more) c.as_slice.ensures.value)
    has c.in_ok-more.ensures.warnings
    (c.in_ok-extend_from_slice-2.ensures.items ∙ ap (λ more. lines ++ more) c.as_slice-2.ensures.value))

pub returns-in_err-lines-clause-fault : goal.returns-in_err-lines-clause-fault
returns-in_err-lines-clause-fault g c =
    let is = c.in_err-lines.ensures.fault in
    let scripts = option_map now c.args.scripts in
    let begun = g.F.TextFiles.steps c.args.files.now in
    let ended = g.F.TextFiles.steps c.model_lines.new.files in
    let fault : Unread c.args.model.now scripts begun ended c.in_err-lines.field-0.0 =
    (is.0, read_first c.args.model.now scripts begun ended is.1) in
    search (fault, rules)

pub returns-in_err-more-clause-fault : goal.returns-in_err-more-clause-fault
returns-in_err-more-clause-fault g c =
    let is = c.in_err-more.ensures.fault in
    let scripts = option_map now c.args.scripts in
    let begun = g.F.TextFiles.steps c.args.files.now in
    let ended = g.F.TextFiles.steps c.more_lines.new.files in
    let fault : Unread c.args.model.now scripts begun ended c.in_err-more.field-0.0 = (
      is.0,
      subst (λ o. Reads c.args.model.now (option_map now o) begun ended) (sym c.in-Some.is)
          (read_second c.args.model.now c.in-Some.scripts.now begun (g.F.TextFiles.steps c.model_lines.new.files) ended
          c.in_ok-lines.ensures.steps is.1),
    ) in
    search (fault, rules)

pub returns-in_err-extend_from_slice-clause-fault : goal.returns-in_err-extend_from_slice-clause-fault
returns-in_err-extend_from_slice-clause-fault g c =
    let scripts = option_map now c.args.scripts in
    let begun = g.F.TextFiles.steps c.args.files.now in
    let ended = g.F.TextFiles.steps c.more_lines.new.files in
    let fault : Unread c.args.model.now scripts begun ended (ServeFault.Run RunFault.OutOfMemory) = (
      inr refl,
      subst (λ o. Reads c.args.model.now (option_map now o) begun ended) (sym c.in-Some.is)
          (read_second c.args.model.now c.in-Some.scripts.now begun (g.F.TextFiles.steps c.model_lines.new.files) ended
          c.in_ok-lines.ensures.steps (inr c.in_ok-more.ensures.steps)),
    ) in
    search (fault, rules)

pub returns-in_err-extend_from_slice-2-clause-fault : goal.returns-in_err-extend_from_slice-2-clause-fault
returns-in_err-extend_from_slice-2-clause-fault g c =
    let scripts = option_map now c.args.scripts in
    let begun = g.F.TextFiles.steps c.args.files.now in
    let ended = g.F.TextFiles.steps c.more_lines.new.files in
    let fault : Unread c.args.model.now scripts begun ended (ServeFault.Run RunFault.OutOfMemory) = (
      inr refl,
      subst (λ o. Reads c.args.model.now (option_map now o) begun ended) (sym c.in-Some.is)
          (read_second c.args.model.now c.in-Some.scripts.now begun (g.F.TextFiles.steps c.model_lines.new.files) ended
          c.in_ok-lines.ensures.steps (inr c.in_ok-more.ensures.steps)),
    ) in
    search (fault, rules)

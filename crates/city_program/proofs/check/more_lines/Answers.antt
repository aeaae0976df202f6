use Rattle.city_program.proofs.Prelude.{List, Vec, subst, ℕ}
use Rattle.city_program.specs.Checks.{AreScriptsLines}
use Rattle.city_program.proofs.Checked.{lines_of}
use Rattle.city_program.proofs.check.more_lines.Goals as goal

pub returns-clause-lines : goal.returns-clause-lines
returns-clause-lines g c =
    let P = λ (text : List ℕ). AreScriptsLines c.args.decimals text c.in_ok-lines.lines.0.items in
    lines_of P (g.F.TextFiles.text c.args.files.now c.args.scripts.now) c.in_ok-text.text.items
    c.in_ok-text.ensures.read (subst (λ (bytes : Vec ℕ). P bytes.items) c.given.ensures.bytes c.in_ok-lines.ensures.lines)

use Rattle.std.specs.Prelude.{IfSome}
use Rattle.city_diagnostics.proofs.Prelude.{IsLineOf, arith, string_bytes, subst, sym, ◌++◌, ◌≡◌}
use Rattle.city_diagnostics.proofs.Lines.{one_warning_more}
use Rattle.city_diagnostics.specs.Warnings.{AreWarnings, Warns}
use Rattle.city_diagnostics.proofs.check.warnings.warn_scripts.Goals as goal
use Rattle.city_diagnostics.proofs.check.warnings.warn_scripts.Goals.{in-Some+in_ok-extend_from_slice, in_default}

pub loop-place-preserved : goal.loop-place-preserved
loop-place-preserved c = elim c.match-branch-2.branch [
  | in-Some+in_ok-extend_from_slice w ↦
      let line = string_bytes w.in-Some.line in
      let told = subst (λ o. IfSome o (λ words. IsLineOf Warns (string_bytes words))) w.in-Some.is
      c.in_ok-line.ensures in
      let more : w.extend_from_slice.new.self.items ≡ c.loop-place.lines.items ++ line = grind arith in
      subst (λ lines. AreWarnings lines.items) (sym w.lines-is) (subst AreWarnings (sym more)
      (one_warning_more c.loop-place.lines.items line c.loop-place.invariant told))
  | in_default w ↦ subst (λ lines. AreWarnings lines.items) (sym w.lines-is) c.loop-place.invariant
]

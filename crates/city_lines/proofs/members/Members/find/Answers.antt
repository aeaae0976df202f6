use Rattle.city_lines.proofs.Prelude.{◌+◌, ◌<◌, length, subst, sym, rules}
use Rattle.city_lines.proofs.Found.{IsCarried, passed_here}
use Rattle.city_lines.proofs.members.Members.find.Goals as goal

pub loop-member-preserved : goal.loop-member-preserved
loop-member-preserved c =
    let i = c.loop-member.member-index in
    let seen = c.deref-member-items.result.now in
    let same = c.deref-member-items.ensures.value in
    let within : i < length seen = search rules in
    subst (λ ms. IsCarried c.args.name ms (i + 1)) same
    (passed_here c.args.name seen i _ within
    (subst (λ ms. IsCarried c.args.name ms i) (sym same) c.loop-member.invariant) c.if-is.ensures)

use Rattle.city_decimals.proofs.Prelude.{rules, ◌≡◌, ◌+◌, ◌-◌, length, drop, take, take_all, length-drop, subst, Some}
use Rattle.city_decimals.proofs.Prelude.{arith}
use Rattle.memchr.specs.Find.{FindsNeedle}
use Rattle.city_decimals.proofs.Needles.{only_found}
use Rattle.city_decimals.specs.internal.Needles.{Lacks}
use Rattle.city_decimals.proofs.needle.only_place.Goals as goal

pub returns-clause-only : goal.returns-clause-only
returns-clause-only c =
    let text = c.args.text.now in
    let at = c.in_ok-at.at in
    let found : FindsNeedle text c.args.needle.now 0 (Some at) = search rules in
    let same : take (length text - (at + 1)) (drop (at + 1) text) ≡ drop (at + 1) text
    = take_all (length text - (at + 1)) (drop (at + 1) text) (omega (arith, length-drop (at + 1) text)) in
    only_found text c.args.needle.now at found (subst (Lacks c.args.needle.now) same (c.lacks.ensures (search rules)))

use Rattle.city_decimals.proofs.Prelude.{rules, ◌≡◌, sym, length, take, take_all, arith}
use Rattle.memchr.proofs.lemmas.MatchLemmas.{occurs_at-true, OccursAt-from_part}
use Rattle.city_decimals.proofs.Needles.{no_other}
use Rattle.city_decimals.proofs.copier.begins_with.Goals as goal

pub returns-then-text-at-clause-occurs : goal.returns-then-text-at-clause-occurs
returns-then-text-at-clause-occurs c =
    sym (no_other c.args.text.now c.args.bytes.now c.loop-at.at (search rules) (search rules))

pub returns-clause-occurs : goal.returns-clause-occurs
returns-clause-occurs c =
    let text = c.args.text.now in
    let bytes = c.args.bytes.now in
    let n = length bytes in
    let all : take n text ≡ bytes = search (rules, arith, take_all) in
    sym (occurs_at-true text bytes 0 (OccursAt-from_part text bytes 0 (search (rules, arith)) all))

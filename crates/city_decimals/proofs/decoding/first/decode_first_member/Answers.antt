use Rattle.city_decimals.proofs.Prelude.{◌≡◌, ◌-◌, ◌∷◌, None, refl, ap, ◌∙◌, arith, rules, Token, member, parse_map}
use Rattle.city_decimals.proofs.Prelude.{value, value_view, members_more, members_fail, members_no_key}
use Rattle.city_decimals.proofs.decoding.first.decode_first_member.Goals as goal

pub returns-in_err-value-clause-err : goal.returns-in_err-value-clause-err
returns-in_err-value-clause-err c refused n enough =
    let k = c.args.name.now in
    let s = c.args.reader.now in
    let none : value c.args.depth s ≡ None = search rules in
    members_fail (value c.args.depth) n k (Token.key k ∷ s) s refl none

pub returns-in_err-next-clause-err : goal.returns-in_err-next-clause-err
returns-in_err-next-clause-err c refused n enough =
    let p = value c.args.depth in
    let k = c.args.name.now in
    let s = c.args.reader.now in
    let j = value_view c.in_ok-value.value in
    let u = c.read.new.reader in
    members_more p n k (Token.key k ∷ s) s u j (omega (arith, enough)) refl c.in_ok-value.ensures.ok
    ∙ ap (parse_map (member k j)) (members_no_key p (n - 1) u c.in_err-next.ensures.value)

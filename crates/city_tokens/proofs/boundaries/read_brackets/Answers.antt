use Rattle.city_tokens.proofs.Prelude.{◌≡◌, ◌∷◌, ℕ, Some, w64, refl, sym, ap, ◌∙◌, rules, to_z, of_z, begin_array}
use Rattle.city_tokens.proofs.Prelude.{token_of, number, of_integer}
use Rattle.city_tokens.proofs.Reading.{opened_more, seen_token, whole_value}
use Rattle.city_tokens.proofs.boundaries.read_brackets.Goals as goal

pub returns-in-Number : goal.returns-in-Number
returns-in-Number c =
    let n = c.in_ok-x-in-Number in
    let same : to_z w64 (of_z w64 n.x) ≡ n.x = search rules in
    let is = n.ensures.in_range ∙ ap Some (sym same) in
    let seen = λ (depth : ℕ). seen_token c.in_ok-next.ensures (ap token_of c.in-Number.is) refl
    (whole_value depth c.in-Number.text.now n.x c.next.new.self n.ensures.value n.ensures.in_range) in
    (c.loop-brackets.reader, c.loop-brackets.invariant, λ depth. (number (of_integer n.x), seen depth, is))

pub loop-brackets-preserved : goal.loop-brackets-preserved
loop-brackets-preserved c =
    let first : c.loop-brackets.reader ≡ begin_array ∷ c.next.new.self =
    cc (c.in_ok-next.ensures, c.in-BeginArray.is) in
    rw (c.loop-brackets.invariant, first) (opened_more c.loop-brackets.brackets c.next.new.self)

use Rattle.std.proofs.Common.{◌≡◌, drop, get_or, true, false, Some, IfSome, sym, ap, ◌∙◌, arith, subst}
use Rattle.fast_float.specs.Text.{scan}
use Rattle.serde_json.specs.Find.{of_integer}
use Rattle.std.proofs.Common.{◌==◌, take_all, length-drop}
use Rattle.serde_json.specs.Read.{number_of, number_from}
use Rattle.city_reader.proofs.whole.whole_of.Goals as goal

pub returns-then-has_minus-clause-value : goal.returns-then-has_minus-clause-value
unfolding number_of
returns-then-has_minus-clause-value c =
    let s = c.as_bytes-bytes.result.now in
    let signed : (get_or s 0 0 == 45) ≡ true = sym c.if-has_minus.ensures.value in
    let rest = take_all _ (drop 1 s) (omega (arith, length-drop 1 s)) in
    let read : number_from true (scan (drop 1 s)) ≡ number_of s = rw signed in
    subst (λ o. IfSome c.below_zero.result (λ n. o ≡ Some (of_integer n))) (ap (λ bs. number_from true (scan bs)) rest
    ∙ read ∙ ap number_of c.as_bytes-bytes.ensures.value) c.below_zero.ensures.value

pub returns-else-has_minus-clause-value : goal.returns-else-has_minus-clause-value
unfolding number_of
returns-else-has_minus-clause-value c =
    let s = c.as_bytes-bytes.result.now in
    let unsigned : (get_or s 0 0 == 45) ≡ false = sym c.if-has_minus.ensures.value in
    let read : number_from false (scan s) ≡ number_of s = rw unsigned in
    rw (read ∙ ap number_of c.as_bytes-bytes.ensures.value) at c.not_below_zero.ensures.value

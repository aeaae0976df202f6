use Rattle.std.proofs.Common.{◌≡◌, ◌+◌, ◌-◌, ◌≤◌, ◌==◌, length, take, drop, true, false, w64, ap, sym, ◌∙◌, subst}
use Rattle.std.proofs.Common.{arith, rules, take_all, length-drop, drop-drop}
use Rattle.std.proofs.lemmas.Bool.{eq-eqb, ne_eqb}
use mir.Val.{of_z, to_z}
use Rattle.fast_float.specs.Text.{scan}
use Rattle.json.specs.Word.{head}
use Rattle.serde_json.specs.Read.{number_from}
use Rattle.city_reader.specs.Numbers.{IsWholeFront}
use Rattle.city_reader.proofs.SmallNumbers.{unsigned_ends, unsigned_is, signed_ends, signed_is}
use Rattle.city_reader.proofs.small.small_whole.Goals as goal

pub returns-in_ok-n : goal.returns-in_ok-n
returns-in_ok-n c =
    let t = c.args.text.now in
    let n = c.in_ok-n in
    let same : to_z w64 (of_z w64 n.n) ≡ n.n = search rules in
    let rest = take_all (length t - 1) (drop 1 t) (omega (arith, length-drop 1 t)) in
    let front = subst (λ r. IsWholeFront r n.count) rest n.ensures.front in
    let value = ap (λ r. number_from true (scan (take n.count r))) (sym rest) ∙ n.ensures.value in
    let signed : (head t == 45) ≡ true = eq-eqb (head t) 45 (omega (arith, c.byte_at.ensures.head)) in
    let ends = signed_ends t n.count signed front in
    let long : 1 + n.count ≤ length t = omega (arith, front.0, front.1, length-drop 1 t) in
    record {
      whole = (long, ends.0, ends.1, rw same (signed_is t n.count n.n signed long value, n.ensures.in_range));
      next = n.ensures.next ∙ ap (λ r. head (drop n.count r)) rest ∙ ap head (drop-drop n.count 1 t);
    }

pub returns-in_ok-n-2 : goal.returns-in_ok-n-2
returns-in_ok-n-2 c =
    let t = c.args.text.now in
    let n = c.in_ok-n-2 in
    let same : to_z w64 (of_z w64 n.n) ≡ n.n = search rules in
    let unsigned : (head t == 45) ≡ false = ne_eqb (head t) 45 (λ e. omega (arith, c.byte_at.ensures.head, e)) in
    let front = n.ensures.front in
    let is = unsigned_is t n.count n.n unsigned front n.ensures.value in
    record {
      whole = (front.1, unsigned_ends t n.count unsigned front, front.3, rw same (is, n.ensures.in_range));
      next = n.ensures.next;
    }

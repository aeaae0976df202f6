use Rattle.city_decimals.proofs.Prelude.{◌≡◌, ◌+◌, ◌-◌, ◌∷◌, [], ◌++◌, length, take, drop, sym, ap, ◌∙◌}
use Rattle.city_decimals.proofs.Prelude.{subst, arith, take_all, length-drop, append_assoc, append-nil, AreDecodedLines}
use Rattle.city_decimals.proofs.OneLine.{rest_of, one_line, done_with, printed_line, no_lines_left}
use Rattle.city_decimals.proofs.PrintedLines.{no_lines}
use Rattle.city_decimals.specs.internal.Sections.{AreDecodedBehind}
use Rattle.city_decimals.proofs.lines.append_decoded.Goals as goal

pub append_line-requires : goal.append_line-requires
append_line-requires c =
    let l = c.loop-at in
    let all = l.rest.now in
    let n = c.in-Some.at in
    let found = c.in-Some.ensures in
    (printed_line all (take n all) (drop (n + 1) all) l.invariant.printed found.2
    (rest_of all n found.0 found.1)).0

pub loop-at-preserved : goal.loop-at-preserved
loop-at-preserved c =
    let l = c.loop-at in
    let all = l.rest.now in
    let n = c.in-Some.at in
    let line = take n all in
    let d = c.in_ok-out.ensures in
    let made = d.0 in
    let after = take (length all - (n + 1)) (drop (n + 1) all) in
    let found = c.in-Some.ensures in
    let same : after ≡ drop (n + 1) all = take_all (length all - (n + 1)) (drop (n + 1) all) (omega
    (arith, length-drop (n + 1) all)) in
    let all_is : all ≡ line ++ 10 ∷ after = rest_of all n found.0 found.1 ∙ ap (λ t. line ++ 10 ∷ t) (sym same) in
    let written : c.extend_from_slice.new.self.items ≡ l.out.items ++ (made ++ 10 ∷ [])
    = c.in_ok-extend_from_slice.ensures.items ∙ ap (λ t. t ++ 10 ∷ []) d.2 ∙ append_assoc l.out.items made (10 ∷ []) in
    record {
      within = omega (arith, l.invariant.within, ap length same, length-drop (n + 1) all);
      printed = (printed_line all line after l.invariant.printed found.2 all_is).1;
      ready = λ more h.
          let one = subst (λ r. AreDecodedLines r (made ++ 10 ∷ more)) (sym all_is)
          (one_line line made after more found.2 d.1 h) in
          subst (AreDecodedBehind c.args.buffer.items c.args.text.now) (done_with l.out.items made more
          ∙ ap (λ t. t ++ more) (sym written)) (l.invariant.ready (made ++ 10 ∷ more) one);
    }

pub returns : goal.returns
returns c =
    let l = c.loop-at in
    subst (AreDecodedBehind c.args.buffer.items c.args.text.now) (append-nil l.out.items) (l.invariant.ready []
    (subst (λ t. AreDecodedLines t []) (sym (no_lines_left l.rest.now l.invariant.printed c.in_default.ensures))
    no_lines))

use Rattle.city_texts.proofs.Prelude.{◌≡◌, [], ◌∷◌, ◌++◌, sym, ap, ◌∙◌, subst, append_assoc, arith, Pairs}
use Rattle.city_texts.specs.internal.Parts.{IsNextItem}
use Rattle.city_texts.proofs.Parts.{next_shorter, item_shorter, items_over, run_left, run_passed}
use Rattle.city_tokens.proofs.Reading.{value_shorter, items_begin, items_end}
use Rattle.city_texts.proofs.items.rest_of_items.Goals as goal

pub items-init : goal.items-init
items-init g c = (c.requires, [], items_begin c.args.depth c.args.reader.now, rw c.new-items.ensures.items tt)

pub items-smaller : goal.items-smaller
items-smaller g c =
    let l = c.items in
    let R = IsNextItem g.T.FromTokens.stands c.args.depth in
    let same : c.take_end_array.new.self ≡ l.reader = grind arith in
    let read = rw same at c.in_ok-item.ensures in
    let passed = c.in_ok-pass.ensures.passed in
    let more = run_passed R c.args.text.now l.run passed.0 c.from_tokens.new.reader c.pass.new.reader passed.1
    l.invariant.0 in
    omega (
      arith,
      value_shorter _ _ _ _ read.1,
      next_shorter R (item_shorter g.T.FromTokens.stands c.args.depth) passed.0 _ _ more,
    )

pub items-preserved : goal.items-preserved
items-preserved g c =
    let l = c.items in
    let x = c.in_ok-item.item in
    let S = g.T.FromTokens.stands in
    let R = IsNextItem S c.args.depth in
    let same : c.take_end_array.new.self ≡ l.reader = grind arith in
    let pushed : c.push.new.self.items ≡ l.items.items ++ x ∷ [] = grind arith in
    let passed = c.in_ok-pass.ensures.passed in
    let more = run_passed R c.args.text.now l.run passed.0 c.from_tokens.new.reader c.pass.new.reader passed.1
    l.invariant.0 in
    let over = items_over S c.args.depth l.items.items (x ∷ passed.0) _ l.reader _ l.invariant.1 l.invariant.2
    l.invariant.3 (c.from_tokens.new.reader, rw same at c.in_ok-item.ensures, more) in
    let all = passed.2 ∙ ap (λ xs. xs ++ passed.0) pushed ∙ append_assoc l.items.items (x ∷ []) passed.0 in (
      run_left R c.args.text.now l.run c.pass.new.self c.pass.ensures.left l.invariant.0,
      over.0,
      over.1,
      subst (λ xs. Pairs S xs over.0) (sym all) over.2,
    )

pub returns-clause-read : goal.returns-clause-read
returns-clause-read g c =
    let i = c.items.invariant in
    (i.1, rw (c.from_vec.ensures, c.shrink_to_fit.ensures.items) i.3, items_end i.2 (grind arith))

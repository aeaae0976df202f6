use Rattle.city_decimals.proofs.Prelude.{true, false, arith, sym, subst}
use Rattle.city_decimals.specs.internal.Passed.{GoesOn, ArePassed}
use Rattle.city_decimals.proofs.PassedItems.{nothing_goes, comma_first, array_opens_at, array_ends_at, comma_at}
use Rattle.city_decimals.proofs.PassedItems.{passed_whole}
use Rattle.city_decimals.proofs.arrays.whole_items_len.Goals.{then-level-eq0, else-level-eq0}
use Rattle.city_decimals.proofs.arrays.whole_items_len.Goals as goal

pub returns-then-not-has_comma : goal.returns-then-not-has_comma
returns-then-not-has_comma c = (omega arith, nothing_goes c.args.later c.args.depth c.args.text.now)

pub items-init : goal.items-init
items-init c =
    let text = c.args.text.now in
    let comma = c.if-not-has_comma.ensures in
    let len = c.comma_len-at in
    let all = comma_first c.args.later text len.result len.ensures comma.value in (
      (omega arith, nothing_goes c.args.later c.args.depth text),
      omega (arith, len.ensures, comma.len),
      omega arith,
      (c.args.later, λ end goes. subst (λ t. GoesOn 0 c.args.later c.args.depth t end) all goes),
    )

pub items-preserved-then-text-at-eq91 : goal.items-preserved-then-text-at-eq91
items-preserved-then-text-at-eq91 c =
    let l = c.items in
    let before = l.invariant.3 in (
      l.invariant.0,
      omega (arith, c.items-test.true),
      omega (arith, c.if-level-most.false, c.min-most.ensures),
      (
        false,
        λ end goes. before.1 end (array_opens_at c.args.text.now l.at l.level before.0 c.args.depth end
            c.items-test.true c.if-text-at-eq91.true goes),
      ),
    )

pub ends-preserved : goal.ends-preserved
ends-preserved c =
    let l = c.ends in
    let low = l.invariant.2 in (
      omega (arith, c.if-at-text.true),
      omega (arith, l.invariant.1),
      omega (arith, low),
      λ end goes. l.invariant.3 end (array_ends_at c.args.text.now l.at l.level c.args.depth end c.if-at-text.true
          c.if-text-at-eq93.true c.ends-test.true low goes),
    )

pub returns-then-at-text-2 : goal.returns-then-at-text-2
returns-then-at-text-2 c =
    let l = c.ends in
    elim c.if-level-eq0.branch [
      | then-level-eq0 w ↦ subst (ArePassed c.args.later c.args.depth c.args.text.now)
          (sym w.done-is) (passed_whole c.args.text.now l.at l.level c.args.later c.args.depth l.invariant.0
          w.if-level-eq0.true l.invariant.3)
      | else-level-eq0 w
          ↦ subst (ArePassed c.args.later c.args.depth c.args.text.now) (sym w.done-is) c.items.invariant.0
    ]

pub items-preserved : goal.items-preserved
items-preserved c =
    let l = c.ends in
    let here = c.if-at-text-2.false in (
      elim c.if-level-eq0.branch [
        | then-level-eq0 w ↦ subst (ArePassed c.args.later c.args.depth c.args.text.now)
            (sym w.done-is) (passed_whole c.args.text.now l.at l.level c.args.later c.args.depth l.invariant.0
            w.if-level-eq0.true l.invariant.3)
        | else-level-eq0 w
            ↦ subst (ArePassed c.args.later c.args.depth c.args.text.now) (sym w.done-is) c.items.invariant.0
      ],
      omega (arith, here),
      l.invariant.2,
      (
        true,
        λ end goes. l.invariant.3 end (comma_at c.args.text.now l.at l.level c.args.depth end here
            c.if-text-at-ne44.false goes),
      ),
    )

use Rattle.city_decimals.proofs.Prelude.{◌+◌, [], refl}
use Rattle.city_decimals.proofs.Copies.{plain_inside, escape_inside}
use Rattle.city_decimals.proofs.copier.string_end.Goals as goal

pub loop-at-init : goal.loop-at-init
loop-at-init c =
    let end = c.plain_end-at in
    (end.ensures.bound, plain_inside c.args.text.now 0 end.result ([], refl) end.ensures.value)

pub loop-at-preserved : goal.loop-at-preserved
loop-at-preserved c =
    let text = c.args.text.now in
    let l = c.loop-at in
    let end = c.plain_end-at-in-loop-at in (
      end.ensures.bound,
      plain_inside text (l.at + 2) end.result (escape_inside text l.at _ _ l.invariant.1 c.if-at-text.false refl
          c.if-text-at-ne92.false refl c.if-not-is_escaped.ensures) end.ensures.value,
    )

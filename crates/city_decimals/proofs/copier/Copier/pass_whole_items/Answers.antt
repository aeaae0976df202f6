use Rattle.city_decimals.proofs.Prelude.{arith, append-nil, no_items, refl, sym, ap, ◌∙◌, ◌++◌, subst, ArePassed}
use Rattle.std.specs.Prelude.{◌||◌, nat_lt}
use Rattle.city_decimals.proofs.PassedItems.{front_passed}
use Rattle.city_decimals.proofs.copier.Copier.pass_whole_items.Goals as goal

pub returns-then-begins_other-clause-moves : goal.returns-then-begins_other-clause-moves
returns-then-begins_other-clause-moves c =
    (no_items, tt, omega arith, (refl, sym (append-nil c.args.self.now.1)), refl)

pub returns-else-later-clause-moves : goal.returns-else-later-clause-moves
returns-else-later-clause-moves c =
    let a = c.args.self.now in
    let d = c.advance.new.self in
    let later = c.args.later in
    let n = c.whole_items_len-len.result in
    let p = subst (λ t. ArePassed later c.args.depth t n) c.rest-rest.ensures c.whole_items_len-len.ensures in
    let all = front_passed later c.args.depth a.2 n p in (
      p.1.0,
      p.1.2,
      p.1.3,
      (
        c.advance.ensures.moves.0 ∙ ap (λ t. t ++ d.2) all.0,
        c.advance.ensures.moves.1 ∙ ap (λ t. a.1 ++ t) all.0,
      ),
      ap (λ b. b || nat_lt 0 n) (sym c.if-later.false) ∙ all.1,
    )

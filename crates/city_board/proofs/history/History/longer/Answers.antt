use Rattle.city_board.proofs.Prelude.{◌≤◌, ap, arith, length, IsPrefix}
use Rattle.city_board.proofs.Prefixes.{prefix_shorter}
use Rattle.city_board.proofs.history.History.longer.Goals as goal

pub returns-then-self-other-clause-this : goal.returns-then-self-other-clause-this
returns-then-self-other-clause-this c =
    let a = c.self.inside.seen.log in
    let b = c.other.inside.seen.log in
    let both = c.learn.new.self.log in
    let this : IsPrefix a both = rw (← ap (λ s. s.log) c.again-both.ensures) c.learn.ensures.2 in
    let less : length a ≤ length b = omega (arith, c.self.invariant, c.other.invariant) in
    rw (
      ap (λ p. p.changes) c.again.ensures,
      ← ap (λ p. p.changes) c.self.view_is,
      ← ap
          (λ p. p.changes) c.other.view_is,
    )
    (prefix_shorter a b both this c.learn.ensures.3 less)

pub returns-clause-that : goal.returns-clause-that
returns-clause-that c =
    let a = c.self.inside.seen.log in
    let b = c.other.inside.seen.log in
    let both = c.learn.new.self.log in
    let this : IsPrefix a both = rw (← ap (λ s. s.log) c.again-both.ensures) c.learn.ensures.2 in
    let less : length b ≤ length a = omega (arith, c.self.invariant, c.other.invariant) in
    rw (
      ap (λ p. p.changes) c.again-else-self-other.ensures,
      ← ap (λ p. p.changes) c.self.view_is,
      ← ap (λ p. p.changes) c.other.view_is,
    ) (prefix_shorter b a both c.learn.ensures.3 this less)

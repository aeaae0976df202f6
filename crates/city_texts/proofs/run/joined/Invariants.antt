use Rattle.city_texts.proofs.Prelude.{IfSome, AllByRecursion, into_iter_items}
use Rattle.city_texts.specs.internal.Runs.{IsPiece, IsRun}
use Rattle.city_texts.proofs.run.joined.Given as goal

abbrev pub invariant-loop-piece : goal.invariant-loop-piece
invariant-loop-piece g l =
    IsRun g.T.Part.stands l.fn.text l.all
    × AllByRecursion (λ p. IfSome p (IsPiece g.T.Part.stands l.fn.text)) (into_iter_items l.piece-iterator)

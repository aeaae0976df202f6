use Rattle.city_texts.proofs.Prelude.{◌++◌, List, into_iter_items, Object, ℕ}
use Rattle.city_tokens.specs.internal.Stretches.{AreJoined}
use Rattle.city_texts.proofs.stretches.joined.Given as goal

abbrev pub invariant-loop-stretch : goal.invariant-loop-stretch
invariant-loop-stretch l =
    (rest : List (List ℕ × Object)) → AreJoined (into_iter_items l.stretch-iterator) rest
    → AreJoined l.fn.stretches.items (l.all.items ++ rest)

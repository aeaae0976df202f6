use Rattle.city_crew.proofs.Prelude.{◌≡◌, ◌<◌, length, All, Rises, last_of}
use Rattle.city_crew.proofs.watcher.last_looks.Given as goal

abbrev pub invariant-loop-watcher : goal.invariant-loop-watcher
invariant-loop-watcher l =
    (goal.iterator-loop-watcher).can_next l.watcher-iterator
    × (goal.iterator-loop-watcher).is_finite l.watcher-iterator
    × All (λ s. 0 < length s.items) l.seen.items
    × All (λ s. Rises s.items) l.seen.items
    × All (λ s. last_of s.items ≡ l.commits) l.seen.items

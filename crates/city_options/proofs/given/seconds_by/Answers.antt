use Rattle.std.proofs.Common.{List, MatchOption, None, Option, Some, ℕ}
use Rattle.city_options.specs.CommandLines.{IsCount, IsWait}
use Rattle.city_options.specs.RunOptions.{max_wait}
use Rattle.std.specs.Prelude.{◌≤◌}
use Rattle.city_options.proofs.given.seconds_by.Goals as goal

waited : (r : Option ℕ) (text : List ℕ) → MatchOption r ((n : ℕ) → ¬ IsCount 1 max_wait (Some text) n)
    (λ n. IsCount 1 max_wait (Some text) n × (1 ≤ n) × (n ≤ max_wait))
    → MatchOption r ((n : ℕ) → ¬ IsWait (Some text) n) (IsWait (Some text))
waited None text none = none
waited (Some n) text is = is.0

pub returns-in-Some : goal.returns-in-Some
returns-in-Some c =
    rw c.in-Some.is (waited c.count_by.result c.in-Some.field-0.now (rw c.in-Some.is at c.count_by.ensures))

use Rattle.std.specs.Prelude.{◌≡◌, ◌++◌, ℕ, List, Some}
use Rattle.std.specs.Map.{keys_of}
use Rattle.city_live.specs.Ending.{AreTold}
use Rattle.city_live.specs.Naming.{AreNamed}
use Rattle.city_live.proofs.watchers.Watchers.tell.Given as goal

-- these were told, and the rest is to be told
abbrev pub invariant-loop-hand : goal.invariant-loop-hand
invariant-loop-hand l =
    (done : List (List ℕ)) × AreTold done (Some l.changed) l.fn.log l.log × (done ++ keys_of l.hand-iterator ≡ l.self)
    × AreNamed l.hand-iterator

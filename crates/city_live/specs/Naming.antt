-- Names by themselves.
use Rattle.std.specs.Prelude.{◌≡◌, ℕ, List, [], ◌∷◌}
use Rattle.std.specs.Arc.{arc_value}
use Rattle.std.specs.declared.sync.Arc.{Arc}
use Rattle.std.specs.declared.alloc.Global.{Global}

-- each name is shared under itself
abbrev pub AreNamed : List (List ℕ × Arc (List ℕ) Global) → Type 0
AreNamed [] = Unit {0}
AreNamed (w ∷ ws) = (arc_value w.1 ≡ w.0) × AreNamed ws

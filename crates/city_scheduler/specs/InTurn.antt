-- Ends of scripts run one after the other in their order.
use Rattle.std.specs.Prelude.{◌≡◌, ◌+◌, ℕ, List, [], ◌∷◌}
use Rattle.city_model.specs.declared.end.End.{End}

-- the ends are those of script k and its successors, in their order, each begun when exactly the ones before it
-- had ended
abbrev pub AreInTurn : ℕ → List End → Type 0
AreInTurn k [] = Unit {0}
AreInTurn k (e ∷ es) = (e.script ≡ k) × (e.since ≡ k) × AreInTurn (k + 1) es

-- Lists of all faults with a property, each once, in an order.
use Rattle.std.specs.Prelude.{◌≡◌, ◌⊎◌, List, [], ◌∷◌}
use Rattle.std.specs.List.{AllByRecursion}

abbrev pub IsListed : {F : Type 0} → List F → F → Type 0
IsListed [] f = ⊥
IsListed (g ∷ gs) f = (f ≡ g) ⊎ IsListed gs f

-- each comes before all faults behind it
abbrev pub AreOrderedBy : {F : Type 0} → (F → F → Type 0) → List F → Type 0
AreOrderedBy before [] = Unit {0}
AreOrderedBy before (f ∷ fs) = AllByRecursion (before f) fs × AreOrderedBy before fs

-- all faults with the property, each once, in order
pub record AreAll {F : Type 0} (before : F → F → Type 0) (P : F → Type 0) (faults : List F) : Type 0 where
  pub stand : (f : F) → IsListed faults f → P f
  pub all : (f : F) → P f → IsListed faults f
  pub in_order : AreOrderedBy before faults

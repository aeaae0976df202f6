-- Objects resolved by several workers, a stretch each.
use Rattle.std.specs.Prelude.{◌≡◌, ◌++◌, ℕ, List, [], ◌∷◌, Option, Some, None, IfSome, Vec}
use Rattle.city_model.specs.declared.object.Object.{Object}
use Rattle.city_model.specs.declared.object.Point.{Point}
use Rattle.city_tokens.specs.internal.Objects.{IsResolvedObject}
use Rattle.city_tokens.specs.internal.Standing.{Pairs}

-- each stretch of objects was resolved, if there is an answer
abbrev pub PairsIfResolved : {Z : Type 0} → List Point → List (Vec (List ℕ × Object) Z)
    → List (Option (Vec (List ℕ × Object) Z)) → Type 0
PairsIfResolved points stretches resolved =
    Pairs (λ s o. IfSome o (λ p. Pairs (IsResolvedObject points) s.items p.items)) stretches resolved

-- no stretch is missing, and these are the items of all
abbrev pub AreJoined : {A Z : Type 0} → List (Option (Vec A Z)) → List A → Type 0
AreJoined [] all = all ≡ []
AreJoined (None ∷ more) all = ⊥
AreJoined {A} (Some s ∷ more) all = (rest : List A) × (all ≡ s.items ++ rest) × AreJoined more rest

-- A test of some surface or some shell of a shape, on its boundaries.
use Rattle.city_model.proofs.Prelude.{arith, ◌≡◌, List, [], ◌∷◌, Bool, refl, ap, ◌∙◌, list_any, list_any-append, Shape}
use Rattle.city_model.proofs.Prelude.{Surface}
use Rattle.std.specs.Prelude.{◌||◌}
use Rattle.city_model.specs.Shells.{joined, surfaces_of}
use Rattle.city_model.specs.internal.BorrowedBounds.{Boundaries, Surfaces, Shells, Solids, boundaries_of}

-- some item of the joined lists passes the test exactly if some item of some list does
list_any-joined : {T : Type 0} (p : T → Bool) (xss : List (List T))
    → list_any p (joined xss) ≡ list_any (list_any p) xss
list_any-joined p [] = refl
list_any-joined p (xs ∷ xss) = list_any-append p xs (joined xss) ∙ ap (λ b. list_any p xs || b) (list_any-joined p xss)

module _ (p : Surface → Bool) where
  -- as the code asks, list by list
  abbrev pub some_surface : Boundaries → Bool
  some_surface (Surfaces surfaces) = list_any p surfaces
  some_surface (Shells shells) = list_any (list_any p) shells
  some_surface (Solids solids) = list_any (list_any (list_any p)) solids

  pub some_surface_by : (shape : Shape) (b : Boundaries) → b ≡ boundaries_of shape
      → some_surface b ≡ list_any p (surfaces_of shape)
  some_surface_by shape b is = grind (arith, list_any-joined)

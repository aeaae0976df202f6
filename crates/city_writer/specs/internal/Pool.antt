-- A pool to which points are added, one after another or piece by piece.
use Rattle.std.specs.Prelude.{◌≡◌, ℕ, List, [], ◌∷◌, ◌++◌, Bool, Option, Some, None, not, filter, slice_get, take}
use Rattle.std.specs.List.{list_any}
use Rattle.city_model.specs.Shells.{same_point}
use Rattle.city_model.specs.declared.object.Point.{Point}
use Rattle.city_writer.specs.Pool.{with_point}
use Rattle.city_writer.specs.internal.Pieces.{joined}

-- the pool after more points are met
abbrev pub with_points : List Point → List Point → List Point
with_points pool [] = pool
with_points pool (p ∷ ps) = with_points (with_point pool p) ps

-- whether a point isn't among others
abbrev pub is_new : List Point → Point → Bool
is_new others p = not (list_any (same_point p) others)

-- the points of each piece that aren't among others, nor in a piece before it
abbrev pub new_points : List Point → List (Option (List Point)) → List Point
new_points others [] = []
new_points others (None ∷ pieces) = new_points others pieces
new_points others (Some ps ∷ pieces) = filter (is_new others) ps ++ new_points (others ++ ps) pieces

-- the points of one piece that aren't among others; there is such a piece
abbrev pub AreNew : List Point → Option (Option (List Point)) → List Point → Type 0
AreNew others None ps = ⊥
AreNew others (Some None) ps = ⊥
AreNew others (Some (Some all)) ps = ps ≡ filter (is_new others) all

-- the points of the piece at a place that no piece before it has
abbrev pub AreNewAt : List (Option (List Point)) → ℕ → List Point → Type 0
AreNewAt pieces i ps = AreNew (joined (take i pieces) (λ all. all)) (slice_get pieces i) ps

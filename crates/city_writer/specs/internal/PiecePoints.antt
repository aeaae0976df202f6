-- The points of a piece, and a box around them.
use Rattle.std.specs.Prelude.{◌≡◌, ◌&&◌, ℤ, Bool, true, List, Option, IfSome, int_le}
use Rattle.std.specs.List.{list_all}
use Rattle.city_model.specs.declared.object.Point.{Point}
use Rattle.city_writer.specs.declared.piece_points.Bounds.{Bounds}

-- whether a number is between two, or one of them
unfoldable pub is_between : ℤ → ℤ → ℤ → Bool
is_between least n most = int_le least n && int_le n most

-- whether a point is in a box
abbrev pub is_within : Bounds → Point → Bool
is_within b p =
    is_between b.least.x p.x b.most.x && (is_between b.least.y p.y b.most.y && is_between b.least.z p.z b.most.z)

-- if there is a box, all points are in it
abbrev pub are_bounded : Option Bounds → List Point → Type 0
are_bounded bounds ps = IfSome bounds (λ b. list_all (is_within b) ps ≡ true)

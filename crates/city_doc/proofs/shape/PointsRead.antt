-- A point written as its number is read again.
use Rattle.city_doc.proofs.Prelude.{◌≡◌, ℕ, zero, suc, ◌<◌, true, List, length, Some}
use Rattle.city_doc.proofs.Prelude.{ap, arith, ◌^◌, option_map}
use Rattle.city_doc.proofs.Prelude.{lt-ltb, and_parts, prefix_len-le-length}
use Rattle.city_doc.proofs.Prelude.{Point, Shape, point_at, nested_of, shape_of}
use Rattle.city_doc.proofs.Prelude.{point_data, nested_data, boundaries_data, Nested, shape_name}
use Rattle.city_model.specs.declared.object.Shape.TheVariants.{MultiSurface, CompositeSurface, Solid, MultiSolid}
use Rattle.city_model.specs.declared.object.Shape.TheVariants.{CompositeSolid}
use Rattle.city_writer.specs.Pool.{nested_points, shape_points}
use Rattle.city_doc.proofs.tree.ListsRead.{list_read}
use Rattle.city_writer.proofs.Laws.{is_in, are_in, parts_in, found}

module _ (pool : List Point) (small : length pool < 2 ^ 63) where
  point_read : (p : Point) → is_in pool p ≡ true → point_at pool (point_data pool p) ≡ Some p
  point_read p h = grind (arith, found, prefix_len-le-length, lt-ltb)

  pub nested_read : (n : ℕ) (x : Nested n) → are_in pool (nested_points n x) ≡ true
      → nested_of pool n (nested_data pool n x) ≡ Some x
  nested_read zero p h = point_read p (and_parts (is_in pool p) true h).0
  nested_read (suc n) xs h =
      list_read (nested_of pool n) (nested_data pool n) (λ x. are_in pool (nested_points n x)) (nested_read n) xs
      (parts_in pool (nested_points n) xs h)

  pub shape_read : (shape : Shape) → are_in pool (shape_points shape) ≡ true
      → shape_of pool (shape_name shape) (boundaries_data pool shape) ≡ Some shape
  shape_read (MultiSurface surfaces) h = ap (option_map MultiSurface) (nested_read 3 surfaces h)
  shape_read (CompositeSurface surfaces) h = ap (option_map CompositeSurface) (nested_read 3 surfaces h)
  shape_read (Solid shells) h = ap (option_map Solid) (nested_read 4 shells h)
  shape_read (MultiSolid solids) h = ap (option_map MultiSolid) (nested_read 5 solids h)
  shape_read (CompositeSolid solids) h = ap (option_map CompositeSolid) (nested_read 5 solids h)

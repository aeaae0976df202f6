-- The canonical tree of a city stands for the city.
use Rattle.city_doc.proofs.Prelude.{◌≡◌, true, Some, ap, ◌∙◌, List, arith, option_and_then, entries, Data, put}
use Rattle.city_doc.proofs.Prelude.{as_object, get_member-put, CityValue, entries_ascend, is_city_json, points_in}
use Rattle.city_doc.proofs.Prelude.{entries_of, entries_in, city_of, tree_of, frame_members, objects_data, IsKeptCity}
use Rattle.city_doc.proofs.Prelude.{city_points, pool_of, IsInRange, vertices_data, vertex_data, is_i64_point}
use Rattle.city_doc.proofs.Prelude.{get_member-put_apart, listed_again, list_all, Point, point_of, points_of}
use Rattle.std.proofs.Common.{codes}
use Rattle.city_writer.proofs.Laws.{written_in_turn, points_in_pool}
use Rattle.city_doc.proofs.document.EntriesRead.{entries_read}
use Rattle.city_doc.proofs.document.FramesRead.{frame_read}
use Rattle.city_doc.proofs.tree.ListsRead.{list_read, integer_read}

vertex_read : (p : Point) → is_i64_point p ≡ true → point_of (vertex_data p) ≡ Some p
vertex_read p h = grind (arith, integer_read)

pub vertices_read : (ps : List Point) → list_all is_i64_point ps ≡ true → points_of (vertices_data ps) ≡ Some ps
vertices_read ps h = list_read point_of vertex_data is_i64_point vertex_read ps h

module _ (c : CityValue) (kept : IsKeptCity c) (numbers : IsInRange (pool_of c) c.0) where
  abbrev vertices : Data
  vertices = vertices_data (pool_of c)

  abbrev objects : Data
  objects = objects_data (pool_of c) (entries c.1)

  points_read : points_in (tree_of c) ≡ Some (pool_of c)
  points_read = simp (get_member-put, get_member-put_apart) (vertices_read (pool_of c) numbers.points)

  objects_read : entries_in (pool_of c) (tree_of c) ≡ Some (entries c.1)
  objects_read =
      ap (λ o. option_and_then (entries_of (pool_of c)) (option_and_then as_object o))
      (get_member-put (codes "CityObjects") objects (put (codes "vertices") vertices (frame_members c.0)))
      ∙ ap (entries_of (pool_of c)) (written_in_turn (pool_of c) (entries c.1) (entries_ascend c.1))
      ∙ entries_read (pool_of c) (entries c.1) numbers.fewer kept.objects (points_in_pool (city_points c))

  -- the canonical tree stands for the city
  pub city_read : city_of (tree_of c) ≡ Some c
  city_read =
      let json : is_city_json (tree_of c) ≡ true = simp (get_member-put, get_member-put_apart) in
      let frame = frame_read c.0 vertices objects numbers.scale numbers.translate kept.at_top kept.at_transform in
      rw (json, points_read, objects_read, frame) (ap (λ objects. Some (c.0, objects)) (listed_again c.1))

-- The tree of an object is read as the object.
use Rattle.city_doc.proofs.Prelude.{◌≡◌, ◌<◌, List, ◌∷◌, length, Bool, true, Some, refl, [], arith, ◌&&◌, ◌^◌}
use Rattle.city_doc.proofs.Prelude.{list_all, and_parts, string, put, as_str, get_member-put}
use Rattle.city_doc.proofs.Prelude.{Point, Geometry, Object, object_members, geometry_members, kept_at_object}
use Rattle.city_doc.proofs.Prelude.{lacks_each, kept_at_geometry, name_of, members_integral, geometry_of, object_of}
use Rattle.city_doc.proofs.Prelude.{put_list, object_points, geometry_data, object_data, get_member-put_apart}
use Rattle.std.proofs.Common.{codes}
use Rattle.city_model.specs.Types.{type_named}
use Rattle.city_model.proofs.TypeNames.{named}
use Rattle.city_writer.specs.Pool.{geometry_points}
use Rattle.city_writer.specs.internal.document.KeptMembers.{is_kept_geometry, is_kept_object}
use Rattle.city_doc.proofs.document.KeptMembers.{kept_all, left_put, left_lacking, left_put_list}
use Rattle.city_doc.proofs.tree.ListsRead.{put_list_read, all_pass}
use Rattle.city_writer.proofs.Laws.{are_in, parts_in, object_members_lacking}
use Rattle.city_doc.proofs.shape.PointsRead.{shape_read}
use Rattle.city_doc.proofs.tree.PutLists.{get_member-put_list_apart}

pub geometry_read : (pool : List Point) → length pool < 2 ^ 63 → (g : Geometry)
    → (is_kept_geometry g && are_in pool (geometry_points g)) ≡ true → geometry_of pool (geometry_data pool g) ≡ Some g
unfolding is_kept_geometry
geometry_read pool small g h =
    let hs = and_parts (kept_at_geometry g.extra) (are_in pool (geometry_points g)) h in
    simp (
      get_member-put,
      get_member-put_apart,
      left_put,
      left_lacking geometry_members g.extra (and_parts (members_integral g.extra) _ hs.0).1,
      kept_all kept_at_geometry g.extra hs.0,
      shape_read pool small g.shape hs.1,
    )

pub both_all : {X : Type 0} (f g : X → Bool) (xs : List X) → list_all f xs ≡ true → list_all g xs ≡ true
    → list_all (λ x. f x && g x) xs ≡ true
both_all f g [] h k = refl
both_all f g (x ∷ xs) h k = grind (arith, both_all f g xs)

pub object_read : (pool : List Point) (o : Object) → length pool < 2 ^ 63 → is_kept_object o ≡ true
    → are_in pool (object_points o) ≡ true → object_of pool (object_data pool o) ≡ Some o
unfolding is_kept_object type_named
object_read pool o small keeps points =
    let hs = and_parts (kept_at_object o.body.extra) (list_all is_kept_geometry o.body.geometry) keeps in
    let lacks = object_members_lacking o.body.extra hs.0 in
    let none : lacks_each object_members o.body.extra ≡ true =
    rw (lacks.no_type, lacks.no_geometry, lacks.no_parents, lacks.no_children) refl in
    let typed = put (codes "type") (string (name_of o.body.kind)) o.body.extra in
    let shaped = put_list (codes "geometry") (geometry_data pool) o.body.geometry typed in
    let shapes = put_list_read (geometry_of pool) (geometry_data pool) _ (geometry_read pool small) (codes "geometry")
    o.body.geometry typed
    (both_all is_kept_geometry (λ g. are_in pool (geometry_points g)) o.body.geometry hs.1
    (parts_in pool geometry_points o.body.geometry points))
    (simp (get_member-put_apart, lacks.no_geometry)) in
    let parents = put_list_read as_str string (λ s. true) (λ s h. refl) (codes "parents") o.parents shaped
    (all_pass o.parents) (simp (get_member-put_apart, get_member-put_list_apart, lacks.no_parents)) in
    let children = put_list_read as_str string (λ s. true) (λ s h. refl) (codes "children") o.children
    (put_list (codes "parents") string o.parents shaped) (all_pass o.children)
    (simp (get_member-put_apart, get_member-put_list_apart, lacks.no_children)) in
    simp (
      get_member-put_list_apart,
      get_member-put,
      named o.body.kind,
      shapes,
      parents,
      children,
      left_put,
      left_put_list,
      left_lacking object_members o.body.extra none,
      kept_all kept_at_object o.body.extra hs.0,
    )

-- Every number of a city's canonical tree is a 64-bit signed integer.
use Rattle.city_doc.proofs.Prelude.{◌≡◌, ℕ, zero, suc, ℤ, ◌<◌, Bool, true, List, ◌∷◌, map, length, refl, [], ap, arith}
use Rattle.city_doc.proofs.Prelude.{◌^◌, is_some, list_all, lt-ltb, and_parts, prefix_len-le-length, entries, Data}
use Rattle.city_doc.proofs.Prelude.{string, Members, no_members, put, items_of, Entries, CityValue, Frame, Geometry}
use Rattle.city_doc.proofs.Prelude.{Object, Point, kept_at_top, kept_at_transform, kept_at_object, kept_at_geometry}
use Rattle.city_doc.proofs.Prelude.{is_integral, items_integral, members_integral, put_list, integer_data, triple_data}
use Rattle.city_doc.proofs.Prelude.{point_data, nested_data, geometry_data, object_data, with_objects, transform_data}
use Rattle.city_doc.proofs.Prelude.{numbered_tree, are_kept_objects, IsKeptCity, Nested, nested, IsInRange, vertex_data}
use Rattle.city_doc.proofs.Prelude.{is_i64_point, is_i64, is_i64_triple}
use Rattle.city_writer.specs.internal.document.KeptMembers.{is_kept_geometry, is_kept_object}
use Rattle.city_tokens.proofs.Laws.{put-integral}
use Rattle.city_doc.proofs.tree.ListsRead.{all_pass, integer_read}

pub list_integral : {A : Type 0} (f : A → Data) (ok : A → Bool) → ((x : A) → ok x ≡ true → is_integral (f x) ≡ true)
    → (xs : List A) → list_all ok xs ≡ true → items_integral (items_of (map f xs)) ≡ true
list_integral f ok each [] h = refl
list_integral f ok each (x ∷ xs) h = grind (arith, each, list_integral f ok each xs)

pub put_list_whole : {A : Type 0} (k : List ℕ) (f : A → Data) (xs : List A) (ms : Members)
    → items_integral (items_of (map f xs)) ≡ true → members_integral ms ≡ true
    → members_integral (put_list k f xs ms) ≡ true
put_list_whole k f xs ms h hs = grind (arith, put-integral)

triple_integral : (zs : List ℤ) → list_all is_i64 zs ≡ true → is_integral (triple_data zs) ≡ true
triple_integral zs h = list_integral integer_data is_i64 (λ z h. ap is_some (integer_read z h)) zs h

pub vertex_integral : (p : Point) → is_i64_point p ≡ true → is_integral (vertex_data p) ≡ true
vertex_integral p h = triple_integral (p.x ∷ p.y ∷ p.z ∷ []) (grind arith)

pub at_geometry : (ms : Members) → kept_at_geometry ms ≡ true → members_integral ms ≡ true
at_geometry ms h = (and_parts (members_integral ms) _ h).0

pub at_object : (ms : Members) → kept_at_object ms ≡ true → members_integral ms ≡ true
at_object ms h = grind arith

module _ (pool : List Point) (fewer : length pool < 2 ^ 63) where
  point_integral : (p : Point) → is_integral (point_data pool p) ≡ true
  point_integral p = grind (arith, prefix_len-le-length, lt-ltb)

  nested_integral : (n : ℕ) (x : Nested n) → is_integral (nested_data pool n x) ≡ true
  nested_integral zero p = point_integral p
  nested_integral (suc n) xs =
      list_integral (nested_data pool n) (λ x. true) (λ x h. nested_integral n x) xs (all_pass xs)

  pub geometry_integral : (g : Geometry) → is_kept_geometry g ≡ true → is_integral (geometry_data pool g) ≡ true
  unfolding is_kept_geometry
  geometry_integral g h =
      let b = nested g.shape in
      let bounds = nested_integral b.0 b.1 in
      let rest = at_geometry g.extra h in
      search (put-integral, bounds, rest)

  pub object_integral : (o : Object) → is_kept_object o ≡ true → is_integral (object_data pool o) ≡ true
  unfolding is_kept_object
  object_integral o h =
      let parts = and_parts (kept_at_object o.body.extra) (list_all is_kept_geometry o.body.geometry) h in
      let texts : (ids : List (List ℕ)) → items_integral (items_of (map string ids)) ≡ true =
      λ ids. list_integral string (λ s. true) (λ s h. refl) ids (all_pass ids) in
      let shapes = list_integral (geometry_data pool) is_kept_geometry geometry_integral o.body.geometry parts.1 in
      let rest = at_object o.body.extra parts.0 in
      search (put-integral, put_list_whole, texts, shapes, rest)

  objects_integral : (ms : Members) (es : Entries) → are_kept_objects es ≡ true → members_integral ms ≡ true
      → members_integral (with_objects pool ms es) ≡ true
  objects_integral ms [] h hs = hs
  objects_integral ms (e ∷ es) h hs =
      let parts = and_parts (is_kept_object e.1) (are_kept_objects es) h in
      objects_integral (put e.0 (object_data pool e.1) ms) es parts.1
      (put-integral e.0 (object_data pool e.1) ms (object_integral e.1 parts.0) hs)

pub at_transform : (ms : Members) → kept_at_transform ms ≡ true → members_integral ms ≡ true
at_transform ms h = (and_parts (members_integral ms) _ h).0

pub at_top : (ms : Members) → kept_at_top ms ≡ true → members_integral ms ≡ true
at_top ms h = grind arith

transform_integral : (f : Frame) → is_i64_triple f.scale ≡ true → is_i64_triple f.translate ≡ true
    → kept_at_transform f.more ≡ true → is_integral (transform_data f) ≡ true
transform_integral f in_scale in_translate h =
    let scale = triple_integral f.scale (and_parts _ (list_all is_i64 f.scale) in_scale).1 in
    let translate = triple_integral f.translate (and_parts _ (list_all is_i64 f.translate) in_translate).1 in
    let rest = at_transform f.more h in
    search (put-integral, scale, translate, rest)

pub city_integral : (pool : List Point) (c : CityValue) → IsKeptCity c → IsInRange pool c.0
    → is_integral (numbered_tree pool c) ≡ true
city_integral pool c h r =
    let objects = objects_integral pool r.fewer no_members (entries c.1) h.objects refl in
    let points = list_integral vertex_data is_i64_point vertex_integral pool r.points in
    let transform = transform_integral c.0 r.scale r.translate h.at_transform in
    let rest = at_top c.0.extra h.at_top in
    search (put-integral, objects, points, transform, rest)

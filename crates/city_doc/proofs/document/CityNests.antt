-- The text written for a city of a text nests no deeper than a text that is read, or than boundaries.
use Rattle.city_doc.proofs.Prelude.{◌≡◌, ℕ, zero, suc, ◌<◌, ◌≤◌, max, List, ◌∷◌, map, Option, Some, arith, ℤ, Bool, []}
use Rattle.city_doc.proofs.Prelude.{refl, subst, sym, Data, string, Items, no_items, item, Members, no_members, member}
use Rattle.city_doc.proofs.Prelude.{put, depth, array, items_depth, members_depth, get, get_member, as_object}
use Rattle.city_doc.proofs.Prelude.{max_depth, items_of, Entries, CityValue, Objects, Frame, Geometry, Object, Point}
use Rattle.city_doc.proofs.Prelude.{Shape, object_members, geometry_members, top_members, kept_at_transform}
use Rattle.city_doc.proofs.Prelude.{transform_members, kept_at_geometry, kept_at_object, kept_at_top, without}
use Rattle.city_doc.proofs.Prelude.{without_each, read_items, list_or_absent, put_list, kept_if, integer_data}
use Rattle.city_doc.proofs.Prelude.{triple_data, geometry_of, Nested, nested, object_of, entries_of, city_of}
use Rattle.city_doc.proofs.Prelude.{IsTextOfCity, frame_of, more_of, nested_data, geometry_data, object_data}
use Rattle.city_doc.proofs.Prelude.{with_objects, frame_members, numbered_tree, tree_of, pool_of, and_then_some}
use Rattle.city_doc.proofs.Prelude.{map_some, entries, objects_in, vertices_in, option_and_then, option_map}
use Rattle.city_doc.proofs.Prelude.{vertex_data}
use Rattle.std.proofs.Common.{codes}
use Rattle.serde_json.proofs.Nesting.{depth-read}
use Rattle.city_tokens.proofs.Laws.{OfEach, of_each_listed}
use Rattle.city_doc.proofs.document.LawfulTrees.{stands_for, frame_parts}
use Rattle.city_doc.proofs.document.NoFault.{read_as}
use Rattle.city_doc.proofs.object.FaultlessBodies.{body_parts, geometry_parts}

put_depth : (k : List ℕ) (d : Data) (ms : Members) → members_depth (put k d ms) ≤ max (depth d) (members_depth ms)
put_depth k d no_members = omega arith
put_depth k d (member l e ms) = let rest = put_depth k d ms in grind arith

put_list_depth : {A : Type 0} (k : List ℕ) (f : A → Data) (xs : List A) (ms : Members)
    → members_depth (put_list k f xs ms) ≤ max (suc (items_depth (items_of (map f xs)))) (members_depth ms)
put_list_depth k f [] ms = omega arith
put_list_depth k f (x ∷ xs) ms = omega (arith, put_depth)

without_depth : (name : List ℕ) (ms : Members) → members_depth (without name ms) ≤ members_depth ms
without_depth name no_members = omega arith
without_depth name (member k d ms) = let rest = without_depth name ms in grind arith

without_each_depth : (names : List (List ℕ)) (ms : Members) → members_depth (without_each names ms) ≤ members_depth ms
without_each_depth [] ms = omega arith
without_each_depth (name ∷ names) ms =
    omega (arith, without_each_depth names (without name ms), without_depth name ms)

member_depth : (name : List ℕ) (ms : Members) (e : Data) → get_member name ms ≡ Some e → depth e ≤ members_depth ms
member_depth name no_members e h = grind arith
member_depth name (member k d ms) e h = let rest = member_depth name ms e in grind arith

get_depth : (name : List ℕ) (d e : Data) → get name d ≡ Some e → depth e < depth d
get_depth name d e h = grind (arith, member_depth)

object_depth : (d : Data) (ms : Members) → as_object d ≡ Some ms → members_depth ms < depth d
object_depth d ms h = grind arith

left_depth : (test : Members → Bool) (names : List (List ℕ)) (d : Data) (ms kept : Members) → as_object d ≡ Some ms
    → kept_if test (without_each names ms) ≡ Some kept → members_depth kept < depth d
left_depth test names d ms kept is h =
    let less = without_each_depth names ms in
    let deep = object_depth d ms is in
    grind arith

list_depth : {A : Type 0} (f : A → Data) (n : ℕ) → ((x : A) → depth (f x) ≤ n) → (xs : List A)
    → items_depth (items_of (map f xs)) ≤ n
list_depth f n each [] = omega arith
list_depth f n each (x ∷ xs) = omega (arith, each x, list_depth f n each xs)

-- a list nests no deeper when it is read and written, if its items nest no deeper
module _ {A : Type 0} (read : Data → Option A) (f : A → Data) (n : ℕ) (each : (d : Data) (x : A) → read d ≡ Some x
    → depth (f x) ≤ max n (depth d)) where
  items_within : (ds : Items) (xs : List A) → read_items read ds ≡ Some xs
      → items_depth (items_of (map f xs)) ≤ max n (items_depth ds)
  items_within no_items xs h = grind arith
  items_within (item d ds) xs h =
      let x = and_then_some (λ y. option_map (λ ys. y ∷ ys) (read_items read ds)) (read d) xs h in
      let r = map_some (λ ys. x.0 ∷ ys) (read_items read ds) xs x.2 in
      rw r.2 (omega (arith, each d x.0 x.1, items_within ds r.0 r.1))

  list_within : (o : Option Data) (b : ℕ) → ((e : Data) → o ≡ Some e → depth e < b) → (xs : List A)
      → list_or_absent read o ≡ Some xs → suc (suc (items_depth (items_of (map f xs)))) ≤ max (suc (suc n)) b
  list_within (Some (array ds)) b below xs h = let deep = below (array ds) refl in omega (arith, items_within ds xs h)
  list_within o b below xs h = grind arith

module _ (pool points : List Point) where
  nested_depth : (n : ℕ) (x : Nested n) → depth (nested_data pool n x) ≤ n
  nested_depth zero p = omega arith
  nested_depth (suc n) xs = omega (arith, list_depth (nested_data pool n) n (nested_depth n) xs)

  nested_within : (s : Shape) → (nested s).0 ≤ 5
  nested_within s = grind arith

  geometry_within : (d : Data) (g : Geometry) → geometry_of points d ≡ Some g
      → depth (geometry_data pool g) ≤ max 6 (depth d)
  geometry_within d g h =
      let p = geometry_parts points d g h in
      let bounds = nested_depth (nested g.shape).0 (nested g.shape).1 in
      let few = nested_within g.shape in
      let left = left_depth kept_at_geometry geometry_members d p.members g.extra p.is_object p.kept in
      omega (arith, put_depth)

  object_within : (d : Data) (o : Object) → object_of points d ≡ Some o → depth (object_data pool o) ≤ max 8 (depth d)
  object_within d o h =
      let r = read_as points d o h in
      let p = body_parts points d o.body r.body in
      let shapes = list_within (geometry_of points) (geometry_data pool) 6 geometry_within (get (codes "geometry") d)
      (depth d) (get_depth (codes "geometry") d) o.body.geometry p.geometry in
      let left = left_depth kept_at_object object_members d p.members o.body.extra p.is_object p.kept in
      omega (arith, put_depth, put_list_depth, list_depth string 0 (λ s. omega arith))

  entries_within : (n : ℕ) (ms : Members) (es : Entries) → members_depth ms ≤ n → entries_of points ms ≡ Some es
      → OfEach (λ o. depth (object_data pool o) ≤ max 8 n) es
  entries_within n no_members es below h = grind arith
  entries_within n (member id d ms) es below h =
      let o = and_then_some _ (object_of points d) es h in
      let r = map_some _ (entries_of points ms) es o.2 in
      let first = object_within d o.0 o.1 in
      let rest = entries_within n ms r.0 (omega arith) r.1 in
      rw r.2 (omega arith, rest)

  objects_depth : (n : ℕ) (es : Entries) → OfEach (λ o. depth (object_data pool o) ≤ n) es → (ms : Members)
      → members_depth ms ≤ n → members_depth (with_objects pool ms es) ≤ n
  objects_depth n [] h ms below = below
  objects_depth n (e ∷ es) h ms below =
      objects_depth n es h.1 (put e.0 (object_data pool e.1) ms) (omega (arith, put_depth, h.0))

triple_depth : (zs : List ℤ) → depth (triple_data zs) ≤ 1
triple_depth zs = omega (arith, list_depth integer_data 0 (λ z. omega arith) zs)

objects_deep : (d : Data) → option_and_then as_object (get (codes "CityObjects") d) ≡ Some (objects_in d)
    → suc (members_depth (objects_in d)) < depth d
objects_deep d h =
    let e = and_then_some as_object (get (codes "CityObjects") d) (objects_in d) h in
    let below = get_depth (codes "CityObjects") d e.0 e.1 in
    let within = object_depth e.0 (objects_in d) e.2 in
    omega arith

more_depth : (t : Data) (more : Members) → more_of t ≡ Some more → members_depth more < depth t
more_depth t more h =
    let ms = and_then_some _ (as_object t) more h in
    left_depth kept_at_transform transform_members t ms.0 more ms.1 ms.2

frame_within : (d : Data) (f : Frame) → frame_of d ≡ Some f → suc (members_depth (frame_members f)) ≤ max 3 (depth d)
frame_within d f h =
    let p = frame_parts d f h in
    let there = get_depth (codes "transform") d p.transform p.there in
    let more = more_depth p.transform f.more p.more in
    let left = left_depth kept_at_top top_members d p.top f.extra p.is_top p.extra in
    omega (arith, put_depth, triple_depth)

city_within : (pool : List Point) (d : Data) (c : CityValue) → city_of d ≡ Some c
    → depth (numbered_tree pool c) ≤ max 10 (depth d)
city_within pool d c h =
    let s = stands_for d c h in
    let n = members_depth (objects_in d) in
    let deep = objects_deep d s.objects in
    let each = subst (λ (o : Objects). OfEach (λ o. depth (object_data pool o) ≤ max 8 n) (entries o)) (sym s.made)
    (of_each_listed _ s.list (entries_within pool (vertices_in d) n (objects_in d) s.list (omega arith) s.entries)) in
    let objects = objects_depth pool [] (max 8 n) (entries c.1) each no_members (omega arith) in
    let f = frame_within d c.0 s.frame in
    omega (arith, put_depth, list_depth vertex_data 1 (λ p. triple_depth (p.x ∷ p.y ∷ p.z ∷ [])) pool)

-- the canonical tree of a city of a text may be read
pub written_within : (text : List ℕ) (c : CityValue) → IsTextOfCity text c → depth (tree_of c) ≤ max_depth
written_within text c (d, (utf, is), stands) =
    omega (arith, city_within (pool_of c) d c stands, depth-read text d is)

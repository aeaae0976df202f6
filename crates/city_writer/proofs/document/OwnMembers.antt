-- The own members of geometries, objects, transforms and cities, in the byte order of their names.
use Rattle.city_writer.proofs.Prelude.{◌≡◌, ℕ, List, ◌∷◌, Option, Some, refl, sym, ap, ◌∙◌, Less, nat_cmp, [], arith}
use Rattle.city_writer.proofs.Prelude.{slice_cmp, entries, Data, string, object, Members, put, CityValue, name_of}
use Rattle.city_writer.proofs.Prelude.{Frame}
use Rattle.city_writer.proofs.Prelude.{Body, Point, Object, Geometry, shape_name, triple_data, transform_data}
use Rattle.city_writer.proofs.Prelude.{numbered_tree, vertices_data, boundaries_data, geometry_data, put_list}
use Rattle.city_writer.proofs.Prelude.{object_data, objects_data, listed}
use Rattle.std.proofs.Common.{codes}
use Rattle.city_writer.specs.internal.document.Pieces.{frame_own}
use Rattle.city_writer.specs.internal.tree.OwnMembers.{Own}
use Rattle.city_writer.specs.script.Commands.{body_data}
use Rattle.city_writer.proofs.tree.Among.{puts, put_if}
use Rattle.city_members.proofs.Puts.{put-swap}

abbrev pub geometry_own : List Point → Geometry → Own
geometry_own pool g =
    (codes "boundaries", Some (boundaries_data pool g.shape)) ∷ (codes "lod", Some (string g.lod)) ∷ (
      codes "type",
      Some (string (shape_name g.shape)),
    ) ∷ []

abbrev pub object_own : List Point → Object → Own
object_own pool o =
    (codes "children", listed string o.children) ∷ (codes "geometry", listed (geometry_data pool) o.body.geometry)
    ∷ (codes "parents", listed string o.parents)
    ∷ (codes "type", Some (string (name_of o.body.kind))) ∷ []

pub put_listed : {A : Type 0} (name : List ℕ) (f : A → Data) (xs : List A) (ms : Members)
    → put_list name f xs ms ≡ put_if name (listed f xs) ms
put_listed name f xs ms = grind arith

swap_if : (a b : List ℕ) (x y : Option Data) (ms : Members) → slice_cmp nat_cmp a b ≡ Less
    → put_if a x (put_if b y ms) ≡ put_if b y (put_if a x ms)
swap_if a b x y ms less = grind (arith, put-swap)

pub object_puts : (pool : List Point) (o : Object) → object_data pool o ≡ object (puts (object_own pool o) o.body.extra)
object_puts pool o = simp (put_listed, ← swap_if)

abbrev pub unrelated_own : List Point → Body → Own
unrelated_own pool b =
    (codes "geometry", listed (geometry_data pool) b.geometry) ∷ (codes "type", Some (string (name_of b.kind))) ∷ []

pub unrelated_puts : (pool : List Point) (b : Body) → body_data pool b ≡ object (puts (unrelated_own pool b) b.extra)
unrelated_puts pool b = ap object (put_listed (codes "geometry") (geometry_data pool) b.geometry _)

abbrev pub transform_own : Frame → Own
transform_own f = (codes "scale", Some (triple_data f.scale)) ∷ (codes "translate", Some (triple_data f.translate)) ∷ []

pub transform_puts : (f : Frame) → transform_data f ≡ object (puts (transform_own f) f.more)
transform_puts f = simp (← put-swap)

abbrev pub city_own : List Point → CityValue → Own
city_own pool c =
    (codes "CityObjects", Some (objects_data pool (entries c.1))) ∷ frame_own pool c.0

pub city_puts : (pool : List Point) (c : CityValue) → numbered_tree pool c ≡ object (puts (city_own pool c) c.0.extra)
city_puts pool c =
    let extra = c.0.extra in
    let vertices = vertices_data pool in
    let transform = put (codes "transform") (transform_data c.0) in
    let type = put (codes "type") (string (codes "CityJSON")) in
    let version = put (codes "version") (string (codes "2.0")) in
    ap (λ ms. object (put (codes "CityObjects") (objects_data pool (entries c.1)) ms))
    (sym (put-swap (codes "transform") (codes "vertices") (transform_data c.0) vertices (version (type extra)) refl)
    ∙ ap transform
    (sym (put-swap (codes "version") (codes "vertices") (string (codes "2.0")) vertices (type extra) refl)
    ∙ ap version (sym (put-swap (codes "type") (codes "vertices") (string (codes "CityJSON")) vertices extra refl))
    ∙ sym (put-swap (codes "type") (codes "version") (string (codes "CityJSON")) (string (codes "2.0"))
    (put (codes "vertices") vertices extra) refl)))

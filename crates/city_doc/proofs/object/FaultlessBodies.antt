-- The tree of a body has no fault.
use Rattle.city_doc.proofs.Prelude.{◌≡◌, List, true, false, Some, refl, ap, arith, sym, ◌∙◌, ℕ, zero, suc, ◌∷◌, Bool}
use Rattle.city_doc.proofs.Prelude.{Option, None, [], is_some, option_and_then, option_map, Data, Members, Items}
use Rattle.city_doc.proofs.Prelude.{no_items, item, get, as_object, get_member, Body, Point, kept_at_object}
use Rattle.city_doc.proofs.Prelude.{has_location, object_members, kept_at_geometry, type_of, without_object_members}
use Rattle.city_doc.proofs.Prelude.{body_of, kept_if, text_at, list_or_absent, read_items, list_of, geometry_of}
use Rattle.city_doc.proofs.Prelude.{point_at, nested_of, shape_of, without_geometry_members, is_unsupported}
use Rattle.city_doc.proofs.Prelude.{is_unknown_type, is_bad_geometry, has_bad_vertex, first_unsupported}
use Rattle.city_doc.proofs.Prelude.{get_member-without_each, and_parts, lt-ltb, and_then_some, map_some, list_any}
use Rattle.city_doc.proofs.Prelude.{list_all, Geometry, Shape, is_position, all_items, is_list_of, is_nested}
use Rattle.city_doc.proofs.Prelude.{is_geometry, are_geometries, Nested, GeometryType, geometry_type}
use Rattle.std.proofs.Common.{codes}
use Rattle.std.specs.Prelude.{not, length, find}
use Rattle.serde_json.specs.Find.{as_array}
use Rattle.city_doc.specs.object.Faults.{unsupported_types, unsupported_type}
use Rattle.city_doc.proofs.document.KeptMembers.{kept_passes}
use Rattle.std.proofs.lemmas.Bool.{not-true}
use Rattle.std.specs.Str.{bytes_eq}
use Rattle.std.proofs.lemmas.Option.{slice_get_within}
use Rattle.std.proofs.lemmas.Slice.Eq.{bytes_eq-Decides}
use Rattle.city_doc.specs.shape.Forms.{is_number, is_boundaries}
use Rattle.city_tokens.specs.shape.GeometryTypes.{geometry_types}
use Rattle.city_doc.proofs.document.Right.{get-object}

pub record HasGeometryParts (points : List Point) (d : Data) (g : Geometry) : Type 0 where
  pub kind : List ℕ
  pub typed : text_at (codes "type") d ≡ Some kind
  pub detailed : text_at (codes "lod") d ≡ Some g.lod
  pub boundaries : Data
  pub bounded : get (codes "boundaries") d ≡ Some boundaries
  pub shaped : shape_of points kind boundaries ≡ Some g.shape
  pub members : Members
  pub is_object : as_object d ≡ Some members
  pub kept : kept_if kept_at_geometry (without_geometry_members members) ≡ Some g.extra

pub geometry_parts : (points : List Point) (d : Data) (g : Geometry) → geometry_of points d ≡ Some g
    → HasGeometryParts points d g
geometry_parts points d g h = grind arith

module _ {X : Type 0} (test : Data → Bool) (read : Data → Option X) (one : (d : Data) (x : X) → read d ≡ Some x
    → test d ≡ true) where
  items_fit : (ds : Items) (xs : List X) → read_items read ds ≡ Some xs → all_items test ds ≡ true
  items_fit no_items xs h = refl
  items_fit (item d ds) xs h = grind (arith, one, items_fit ds)

  pub list_fits : (d : Data) (xs : List X) → list_of read d ≡ Some xs → is_list_of test d ≡ true
  list_fits d xs h = grind (arith, items_fit)

pub position_fits : (points : List Point) (d : Data) (p : Point) → point_at points d ≡ Some p
    → is_position (length points) d ≡ true
position_fits points d p h = grind (arith, lt-ltb, slice_get_within)

pub number_fits : (points : List Point) (d : Data) (p : Point) → point_at points d ≡ Some p → is_number d ≡ true
number_fits points d p h = grind arith

module _ (points : List Point) (leaf : Data → Bool) (fits : (d : Data) (p : Point) → point_at points d ≡ Some p
    → leaf d ≡ true) where
  nested_fits : (n : ℕ) (d : Data) (x : Nested n) → nested_of points n d ≡ Some x → is_nested leaf n d ≡ true
  nested_fits zero = fits
  nested_fits (suc n) = list_fits (is_nested leaf n) (nested_of points n) (nested_fits n)

  shape_fits : (kind : List ℕ) (d : Data) (s : Shape) → shape_of points kind d ≡ Some s
      → is_boundaries leaf kind d ≡ true
  shape_fits kind d s h =
      let t = and_then_some (λ t. option_map t.shape (nested_of points t.depth d)) (geometry_type kind) s h in
      grind (arith, nested_fits)

  geometry_fits : (d : Data) (g : Geometry) → geometry_of points d ≡ Some g → is_geometry leaf d ≡ true
  geometry_fits d g h = let p = geometry_parts points d g h in grind (arith, shape_fits)

  pub geometries_fit : (o : Option Data) (gs : List Geometry) → list_or_absent (geometry_of points) o ≡ Some gs
      → are_geometries leaf o ≡ true
  geometries_fit None gs h = refl
  geometries_fit (Some d) gs h = list_fits (is_geometry leaf) (geometry_of points) geometry_fits d gs h

among_supported : (bad : List (List ℕ)) (kind : List ℕ) (ts : List GeometryType) (t : GeometryType)
    → list_all (λ t. not (list_any (bytes_eq t.name) bad)) ts ≡ true → find (λ t. bytes_eq kind t.name) ts ≡ Some t
    → list_any (bytes_eq kind) bad ≡ false
among_supported bad kind [] t all h = grind arith
among_supported bad kind (u ∷ ts) t all h =
    let same = (bytes_eq-Decides kind u.name).0 in
    grind (arith, among_supported bad kind ts t)

geometry_supported : (points : List Point) (d : Data) (g : Geometry) → geometry_of points d ≡ Some g
    → unsupported_type d ≡ None
geometry_supported points d g h =
    let p = geometry_parts points d g h in
    let t = and_then_some (λ t. option_map t.shape (nested_of points t.depth p.boundaries)) (geometry_type p.kind)
    g.shape p.shaped in
    rw (p.typed, among_supported unsupported_types p.kind geometry_types t.0 refl t.1) refl

items_supported : (points : List Point) (ds : Items) (gs : List Geometry) → read_items (geometry_of points) ds ≡ Some gs
    → first_unsupported ds ≡ None
items_supported points no_items gs h = refl
items_supported points (item d ds) gs h = grind (arith, geometry_supported, items_supported points ds)

pub geometries_supported : (points : List Point) (o : Option Data) (gs : List Geometry)
    → list_or_absent (geometry_of points) o ≡ Some gs
    → option_and_then first_unsupported (option_and_then as_array o) ≡ None
geometries_supported points o gs h = grind (arith, items_supported)

pub record HasBodyParts (points : List Point) (d : Data) (b : Body) : Type 0 where
  pub kind : type_of d ≡ Some b.kind
  pub members : Members
  pub is_object : as_object d ≡ Some members
  pub kept : kept_if kept_at_object (without_object_members members) ≡ Some b.extra
  pub geometry : list_or_absent (geometry_of points) (get (codes "geometry") d) ≡ Some b.geometry

pub body_parts : (points : List Point) (d : Data) (b : Body) → body_of points d ≡ Some b → HasBodyParts points d b
body_parts points d b h =
    let kind = and_then_some _ (type_of d) b h in
    let ms = and_then_some _ (as_object d) b kind.2 in
    let gs = and_then_some _ (list_or_absent (geometry_of points) (get (codes "geometry") d)) b ms.2 in
    let kept = map_some _ (kept_if kept_at_object (without_object_members ms.0)) b gs.2 in
    rw kept.2 (search)

no_location : (d : Data) (ms : Members) → as_object d ≡ Some ms → kept_at_object (without_object_members ms) ≡ true
    → has_location (get (codes "address") d) ≡ false
no_location d ms is_object kept =
    let name = codes "address" in
    let stays = get_member-without_each object_members name ms refl in
    ap has_location (get-object name d ms is_object ∙ sym stays)
    ∙ not-true (has_location (get_member name (without_object_members ms))) (and_parts _ _ kept).1

-- no readable body has a fault in its tree
pub supported : (points : List Point) (d : Data) (b : Body) → body_of points d ≡ Some b → is_unsupported d ≡ false
supported points d b h =
    let p = body_parts points d b h in
    let kept = kept_passes kept_at_object (without_object_members p.members) b.extra p.kept in
    rw (
      no_location d p.members p.is_object kept,
      geometries_supported points (get (codes "geometry") d) b.geometry p.geometry,
    ) refl

pub known : (points : List Point) (d : Data) (b : Body) → body_of points d ≡ Some b → is_unknown_type d ≡ false
known points d b h = grind arith

pub formed : (points : List Point) (d : Data) (b : Body) → body_of points d ≡ Some b → is_bad_geometry d ≡ false
formed points d b h =
    ap not (geometries_fit points _ (number_fits points) (get (codes "geometry") d) b.geometry
    (body_parts points d b h).geometry)

pub placed : (points : List Point) (d : Data) (b : Body) → body_of points d ≡ Some b
    → has_bad_vertex (length points) d ≡ false
placed points d b h =
    ap not (geometries_fit points _ (position_fits points) (get (codes "geometry") d) b.geometry
    (body_parts points d b h).geometry)

pub is_object : (points : List Point) (d : Data) (b : Body) → body_of points d ≡ Some b → is_some (as_object d) ≡ true
is_object points d b h = ap is_some (body_parts points d b h).is_object

-- The body of a tree, from its parts.
use Rattle.city_doc.proofs.Prelude.{◌≡◌, List, true, false, Option, Some, None, refl, sym, ap, ◌∙◌, arith, ℕ, zero, suc}
use Rattle.city_doc.proofs.Prelude.{ℤ, ◌<◌, ◌∷◌, Bool, [], pos, true≢false, codes, is_some, option_and_then, option_map}
use Rattle.city_doc.proofs.Prelude.{slice_get, is_none, if◌then◌else◌, ltb-true, and_parts, Data, Members, Items}
use Rattle.city_doc.proofs.Prelude.{no_items, item, get, get_member, as_object, as_str, as_number, as_i64, Body}
use Rattle.city_doc.proofs.Prelude.{Geometry, Point, kept_at_object, has_location, geometry_members, kept_at_geometry}
use Rattle.city_doc.proofs.Prelude.{without, is_integral, items_integral, get_member-without, type_of}
use Rattle.city_doc.proofs.Prelude.{without_object_members, body_of, kept_if, text_at, list_or_absent, read_items}
use Rattle.city_doc.proofs.Prelude.{list_of, geometry_of, point_at, nested_of, shape_of, without_geometry_members}
use Rattle.city_doc.proofs.Prelude.{is_unsupported, is_unknown_type, has_bad_vertex, as_object-integral, get-integral}
use Rattle.city_doc.proofs.Prelude.{object_with, Shape, is_position, all_items, is_list_of, is_nested, is_geometry}
use Rattle.city_doc.proofs.Prelude.{are_geometries, Nested, GeometryType, geometry_type, and_then_some}
use Rattle.std.specs.Prelude.{length}
use Rattle.std.proofs.lemmas.Bool.{not-false}
use Rattle.city_model.specs.declared.object_type.ObjectType.{ObjectType}
use Rattle.city_tokens.specs.shape.Geometries.{point_at_position}
use Rattle.city_doc.proofs.document.KeptMembers.{kept_all, object_admitted, left_whole}
use Rattle.city_doc.proofs.document.Right.{some_of, get-object}
use Rattle.city_doc.specs.shape.Forms.{natural, is_below, are_nested_for, are_boundaries_of}

module _ {X : Type 0} (test : Data → Bool) (read : Data → Option X) (one : (d : Data) → is_integral d ≡ true
    → test d ≡ true → (x : X) × (read d ≡ Some x)) where
  items_some : (ds : Items) → items_integral ds ≡ true → all_items test ds ≡ true
      → (xs : List X) × (read_items read ds ≡ Some xs)
  items_some no_items integral h = ([], refl)
  items_some (item d ds) integral h = some_of (read_items read (item d ds)) (grind (arith, one, items_some ds))

  pub list_some : (d : Data) → is_integral d ≡ true → is_list_of test d ≡ true
      → (xs : List X) × (list_of read d ≡ Some xs)
  list_some d integral h = grind (arith, items_some)

get_some : {X : Type 0} (xs : List X) (n : ℕ) → n < length xs → (x : X) × (slice_get xs n ≡ Some x)
get_some [] n lt = absurd (omega arith)
get_some (x ∷ xs) zero lt = (x, refl)
get_some (x ∷ xs) (suc n) lt = get_some xs n (omega arith)

position_some : (points : List Point) (o : Option ℤ) → is_below (length points) (option_and_then natural o) ≡ true
    → (p : Point) × (option_and_then (point_at_position points) o ≡ Some p)
position_some points (Some (pos n)) h = get_some points n (ltb-true n (length points) h)
position_some points o h = absurd (true≢false (sym h))

module _ (points : List Point) where
  abbrev fits : Data → Bool
  fits = is_position (length points)

  point_some : (d : Data) → is_integral d ≡ true → fits d ≡ true → (p : Point) × (point_at points d ≡ Some p)
  point_some d integral h = position_some points (option_and_then as_i64 (as_number d)) h

  nested_some : (n : ℕ) (d : Data) → is_integral d ≡ true → is_nested fits n d ≡ true
      → (x : Nested n) × (nested_of points n d ≡ Some x)
  nested_some zero = point_some
  nested_some (suc n) = list_some (is_nested fits n) (nested_of points n) (nested_some n)

  typed_some : (t : Option GeometryType) (d : Data) → is_integral d ≡ true → are_nested_for fits t d ≡ true
      → (s : Shape) × (option_and_then (λ t. option_map t.shape (nested_of points t.depth d)) t ≡ Some s)
  typed_some None d integral h = absurd (true≢false (sym h))
  typed_some (Some t) d integral h =
      let x = nested_some t.depth d integral h in (t.shape x.0, ap (option_map t.shape) x.1)

  bounded : (kind : Option (List ℕ)) (o : Option Data) → ((d : Data) → o ≡ Some d → is_integral d ≡ true)
      → are_boundaries_of fits kind o ≡ true
      → (s : Shape) × (option_and_then (λ k. option_and_then (shape_of points k) o) kind ≡ Some s)
  bounded (Some kind) (Some d) integral h = typed_some (geometry_type kind) d (integral d refl) h
  bounded kind o integral h = absurd (true≢false (sym h))

  geometry_made : (d : Data) (kind lod : List ℕ) (boundaries : Data) (shape : Shape) (ms : Members)
      → text_at (codes "type") d ≡ Some kind → text_at (codes "lod") d ≡ Some lod
      → get (codes "boundaries") d ≡ Some boundaries → shape_of points kind boundaries ≡ Some shape
      → as_object d ≡ Some ms
      → kept_if kept_at_geometry (without_geometry_members ms) ≡ Some (without_geometry_members ms)
      → geometry_of points d ≡ Some (record { lod = lod; shape = shape; extra = without_geometry_members ms })
  geometry_made d kind lod boundaries shape ms typed detailed bounded shaped is_object kept =
      rw (typed, detailed, bounded, shaped, is_object, kept) refl

  geometry_some : (d : Data) → is_integral d ≡ true → is_geometry fits d ≡ true
      → (g : Geometry) × (geometry_of points d ≡ Some g)
  geometry_some d integral h =
      let hs = and_parts (is_some (text_at (codes "lod") d))
      (are_boundaries_of fits (text_at (codes "type") d) (get (codes "boundaries") d)) h in
      let ms = object_with (λ o. is_some (option_and_then as_str o)) refl (codes "lod") d hs.0 in
      let shape = bounded (text_at (codes "type") d) (get (codes "boundaries") d)
      (λ b. get-integral (codes "boundaries") d b integral) hs.1 in
      let kind = and_then_some (λ k. option_and_then (shape_of points k) (get (codes "boundaries") d))
      (text_at (codes "type") d) shape.0 shape.1 in
      let bounds = and_then_some (shape_of points kind.0) (get (codes "boundaries") d) shape.0 kind.2 in
      let lod = some_of (text_at (codes "lod") d) hs.0 in
      let kept = kept_all kept_at_geometry (without_geometry_members ms.0)
      (left_whole geometry_members ms.0 (as_object-integral d ms.0 integral ms.1)) in
      (_, geometry_made d kind.0 lod.0 bounds.0 shape.0 ms.0 kind.1 lod.1 bounds.1 bounds.2 ms.1 kept)

  pub geometries_some : (o : Option Data) → ((d : Data) → o ≡ Some d → is_integral d ≡ true)
      → are_geometries fits o ≡ true → (gs : List Geometry) × (list_or_absent (geometry_of points) o ≡ Some gs)
  geometries_some None integral h = ([], refl)
  geometries_some (Some d) integral h =
      list_some (is_geometry fits) (geometry_of points) geometry_some d (integral d refl) h

-- the member `geometry`, after `type` was taken out
pub geometry_stays : (d : Data) (ms left : Members) (found : Option Data) → as_object d ≡ Some ms
    → left ≡ without (codes "type") ms → found ≡ get_member (codes "geometry") left → get (codes "geometry") d ≡ found
geometry_stays d ms left found is_object is_left is_found =
    rw (get-object (codes "geometry") d ms is_object, is_found, is_left)
    (sym (get_member-without (codes "geometry") (codes "type") ms refl))

module _ (points : List Point) (d : Data) (kind : ObjectType) (ms : Members) (has_type : type_of d ≡ Some kind)
    (is_object : as_object d ≡ Some ms) where
  pub body_missing : list_or_absent (geometry_of points) (get (codes "geometry") d) ≡ None → None ≡ body_of points d
  body_missing none = grind arith

  pub body_unkept : (geometry : List Geometry)
      → list_or_absent (geometry_of points) (get (codes "geometry") d) ≡ Some geometry
      → kept_if kept_at_object (without_object_members ms) ≡ None → None ≡ body_of points d
  body_unkept geometry is_geometry none = grind arith

  pub body_read : (geometry : List Geometry) (kept : Members)
      → list_or_absent (geometry_of points) (get (codes "geometry") d) ≡ Some geometry
      → kept_if kept_at_object (without_object_members ms) ≡ Some kept
      → body_of points d ≡ Some (record { kind = kind; geometry = geometry; extra = kept })
  body_read geometry kept is_geometry is_kept = grind arith

not_located : (located : Bool) (rest : Option (List ℕ))
    → is_some (if located then Some (codes "location") else rest) ≡ false → located ≡ false
not_located located rest h = grind arith

known_some : (o : Option ObjectType) → is_none o ≡ false → is_some o ≡ true
known_some o h = grind arith

-- a tree of whole numbers for an object of a known type, with nothing unsupported and with a point for each position
pub record IsReadable (points : List Point) (d : Data) : Type 0 where
  pub integral : is_integral d ≡ true
  pub is_object : is_some (as_object d) ≡ true
  pub known : is_unknown_type d ≡ false
  pub supported : is_unsupported d ≡ false
  pub placed : has_bad_vertex (length points) d ≡ false

pub body_of-some : (points : List Point) (d : Data) → IsReadable points d
    → (body : Body) × (body_of points d ≡ Some body)
body_of-some points d h =
    let ms = some_of (as_object d) h.is_object in
    let kind = some_of (type_of d) (known_some (type_of d) h.known) in
    let located = not_located (has_location (get (codes "address") d)) _ h.supported in
    let elsewhere = ap has_location (sym (get-object (codes "address") d ms.0 ms.1)) ∙ located in
    let kept = kept_all kept_at_object (without_object_members ms.0)
    (object_admitted ms.0 (as_object-integral d ms.0 h.integral ms.1) elsewhere) in
    let gs = geometries_some points (get (codes "geometry") d) (λ g. get-integral (codes "geometry") d g h.integral)
    (not-false _ h.placed) in
    (_, body_read points d kind.0 ms.0 kind.1 ms.1 gs.0 (without_object_members ms.0) gs.1 kept)

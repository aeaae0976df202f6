-- Geometries and city objects read from encoded ones are written the same.
use Rattle.city_canonical.proofs.Prelude.{arith, ◌≡◌, ℕ, ◌<◌, List, [], ◌∷◌, length, true, false, Option, Some, None}
use Rattle.city_canonical.proofs.Prelude.{codes, refl, sym, ap, subst, ◌∙◌, ◌^◌, map, flat_map, option_map}
use Rattle.city_canonical.proofs.Prelude.{option_and_then, list_all-append, bytes_eq-Decides, bytes_eq, HasNumbers}
use Rattle.city_canonical.proofs.Prelude.{ItemsHaveNumbers, MembersHaveNumbers, Some_inj, not_found, Data, string}
use Rattle.city_canonical.proofs.Prelude.{object, Items, no_items, item, Members, no_members, put, get_member, as_str}
use Rattle.city_canonical.proofs.Prelude.{as_array, of_json, of_items, of_members, items_of, outline, items_outline}
use Rattle.city_canonical.proofs.Prelude.{members_outline, Geometry, Object, Point, has_id, AreOrdered, by_id}
use Rattle.city_canonical.proofs.Prelude.{is_shielded, has_shield, encoded, encoded_items, encoded_members, decoded}
use Rattle.city_canonical.proofs.Prelude.{decoded_items, decoded_members, mapped, bound, geometry_points, object_points}
use Rattle.city_canonical.proofs.Prelude.{object_data, boundaries_data, listed, object_of, nested_of, geometry_type}
use Rattle.city_canonical.proofs.Prelude.{shape_name, read_items, list_of, put_list, and_then_some, map_some, is_in}
use Rattle.city_canonical.proofs.Prelude.{are_in, array_is, object_is, placed, or_empty, list_at}
use Rattle.city_model.specs.declared.object_type.ObjectType.{ObjectType}
use Rattle.city_model.specs.Types.{name_of, first_named, all_types, type_named}
use Rattle.city_writer.specs.shape.Canonical.{geometry_data}
use Rattle.city_tokens.specs.object.Bodies.{without_object_members}
use Rattle.city_tokens.specs.shape.Geometries.{without_geometry_members, geometry_of}
use Rattle.city_tokens.specs.tree.Lists.{list_or_absent}
use Rattle.city_writer.specs.tree.Lists.{list_data}
use Rattle.city_tokens.proofs.Options.{if_some}
use Rattle.city_doc.proofs.Laws.{geometry_parts, read_as}
use Rattle.city_canonical.specs.Members.{unless_empty}
use Rattle.city_canonical.specs.Same.{IsSameGeometry, AreSameGeometries, IsSameObject}
use Rattle.city_canonical.proofs.Members.{string_is, object_read, array_read, found_read, none_read, lookups, ordered}
use Rattle.city_canonical.proofs.Members.{ascend_decoded, value_at, decoded_members_at, no_number, decoded_object}
use Rattle.city_canonical.proofs.Members.{numbers_at, member_same, apart_from}
use Rattle.city_canonical.proofs.Boundaries.{Show, shown_shape, nested_placed, pick, type_is, shape_written}
use Rattle.city_canonical.proofs.Boundaries.{boundaries_plain, IsPlain, text_plain, list_plain, nested_plain, itself}
use Rattle.city_canonical.proofs.Boundaries.{plain_decoded}
use Rattle.json.specs.Json as json
use Rattle.json.specs.Find as look

-- ---- the source of a geometry

record IsGeometryOf (ps : List Point) (d : Data) (g : Geometry) : Type 0 where
  ms : Members
  is : d ≡ object ms
  type : get_member (codes "type") ms ≡ Some (string (shape_name g.shape))
  lod : get_member (codes "lod") ms ≡ Some (string g.lod)
  extra : g.extra ≡ without_geometry_members ms
  bounds : Data
  boundaries : get_member (codes "boundaries") ms ≡ Some bounds
  plain : IsPlain bounds
  shows : (vs : json.Items) → Show vs ps → (j : json.Json) → of_json j ≡ Some bounds → placed vs j ≡ shown_shape g.shape

geometry_read : (ps : List Point) (d : Data) (g : Geometry) → geometry_of ps d ≡ Some g → IsGeometryOf ps d g
geometry_read ps d g h =
    let p = geometry_parts ps d g h in
    let t = and_then_some _ (geometry_type p.kind) g.shape p.shaped in
    let x = map_some _ (nested_of ps t.0.depth p.boundaries) g.shape t.2 in
    let named = type_is p.kind t.0 t.1 in
    let same_name : shape_name g.shape ≡ p.kind = search (arith, bytes_eq-Decides) in
    search (arith, and_then_some, object_is, if_some, codes, string_is, nested_plain, nested_placed, shown_shape)

-- ---- the source of an object

record IsObjectOf (ps : List Point) (d : Data) (o : Object) : Type 0 where
  ms : Members
  is : d ≡ object ms
  type : get_member (codes "type") ms ≡ Some (string (name_of o.body.kind))
  geometry : list_or_absent (geometry_of ps) (get_member (codes "geometry") ms) ≡ Some o.body.geometry
  parents : list_or_absent as_str (get_member (codes "parents") ms) ≡ Some o.parents
  children : list_or_absent as_str (get_member (codes "children") ms) ≡ Some o.children
  extra : o.body.extra ≡ without_object_members ms

name_found : (s : List ℕ) (types : List ObjectType) (kind : ObjectType) → first_named s types ≡ Some kind
    → name_of kind ≡ s
name_found s [] kind h = not_found kind h
name_found s (t ∷ types) kind h =
    pick (λ t. name_of t ≡ s) (bytes_eq s (name_of t)) t kind (first_named s types)
    (λ e. sym ((bytes_eq-Decides s (name_of t)).0 e)) (name_found s types kind) h

name_is : (s : List ℕ) (kind : ObjectType) → type_named s ≡ Some kind → name_of kind ≡ s
unfolding type_named
name_is s kind h = name_found s all_types kind h

object_parts : (ps : List Point) (d : Data) (o : Object) → object_of ps d ≡ Some o → IsObjectOf ps d o
object_parts ps d o h = search (arith, read_as, and_then_some, codes, map_some, object_is, string_is, name_is)

-- ---- lists of ids

ids_data : (ds : Items) (ids : List (List ℕ)) → read_items as_str ds ≡ Some ids → ds ≡ items_of (map string ids)
ids_data no_items ids h = ap (λ xs. items_of (map string xs)) (Some_inj _ _ h)
ids_data (item d ds) ids h = grind (arith, ids_data ds)

ids_list : (d : Data) (ids : List (List ℕ)) → list_of as_str d ≡ Some ids → d ≡ list_data string ids
ids_list d ids h = let ds = and_then_some (read_items as_str) (as_array d) ids h in search (arith, array_is, ids_data)

-- a list of texts is written as the list, unless it is empty
texts_written : (name : List ℕ) (xs : List (List ℕ)) → ((j : json.Json) → has_shield name j ≡ false)
    → IsPlain (list_data string xs)
    → option_map (value_at false name) (listed string xs) ≡ unless_empty (Some (outline (list_data string xs)))
texts_written name [] e plain = refl
texts_written name (x ∷ xs) e plain =
    rw (e (decoded (outline (list_data string (x ∷ xs)))), plain_decoded (list_data string (x ∷ xs)) plain) refl

-- the ids read are written
ids_same : (name : List ℕ) (js : json.Members) (ms : Members) (ids : List (List ℕ)) (r : Option Data)
    → ((j : json.Json) → is_shielded name j ≡ false) → ((j : json.Json) → has_shield name j ≡ false)
    → of_members (encoded_members false js) no_members ≡ Some ms → get_member name ms ≡ r
    → list_or_absent as_str r ≡ Some ids
    → option_map (value_at false name) (listed string ids) ≡ unless_empty (look.get_member name js)
ids_same name js ms ids None bare e read at h = search (arith, none_read)
ids_same name js ms ids (Some d) bare e read at h =
    let found = found_read false name js ms d read at in
    let plainly : of_json (encoded found.0) ≡ Some d = rw (bare found.0) at found.2 in
    let plain = list_plain as_str text_plain d ids h in
    let is = ids_list d ids h in
    rw (found.1, (itself found.0 d plainly plain).1, is) (texts_written name ids e (subst IsPlain is plain))

-- ---- lists of geometries

listed_both : {A : Type 0} (f : A → Data) (xs : List A)
    → let o = option_map (value_at false (codes "geometry")) (listed f xs) in
    (or_empty (option_and_then look.as_array o) ≡ decoded_items (items_outline (items_of (map f xs))))
    × (unless_empty o ≡ o)
listed_both f xs = grind arith

-- ---- written values

-- the boundaries of the geometry h show the shape
abbrev pub IsShown : json.Items → json.Json → Geometry → Type 0
IsShown ws h g = option_map (placed ws) (look.get (codes "boundaries") h) ≡ Some (shown_shape g.shape)

abbrev pub AreShown : json.Items → json.Items → List Geometry → Type 0
AreShown ws json.no_items [] = Unit {0}
AreShown ws (json.item h hs) (g ∷ gs) = IsShown ws h g × AreShown ws hs gs
AreShown ws _ _ = ⊥

-- the members of an object
abbrev object_all : List Point → Object → Members
object_all pool o =
    put_list (codes "children") string o.children
    (put_list (codes "parents") string o.parents
    (put_list (codes "geometry") (geometry_data pool) o.body.geometry
    (put (codes "type") (string (name_of o.body.kind)) o.body.extra)))

-- it is decoded as an object
pub object_decoded : (pool : List Point) (o : Object)
    → decoded (outline (object_data pool o)) ≡ json.object (decoded_members false (members_outline (object_all pool o)))
object_decoded pool o =
    let type : get_member (codes "type") (object_all pool o) ≡ Some (string (name_of o.body.kind)) = simp lookups in
    decoded_object (object_all pool o) (no_number (codes "type") refl (object_all pool o) _ type)

module _ (vs ws : json.Items) (pool : List Point) where
  -- the geometry is written the same, and shows its shape
  abbrev IsWritten : json.Json → Geometry → Type 0
  IsWritten j g = let h = decoded (outline (geometry_data pool g)) in IsSameGeometry vs ws j h × IsShown ws h g

  abbrev AreWritten : json.Items → List Geometry → Type 0
  AreWritten js gs =
      let hs = decoded_items (items_outline (items_of (map (geometry_data pool) gs))) in
      AreSameGeometries vs ws js hs × AreShown ws hs gs

  -- the object is written the same, and shows its shapes
  abbrev pub IsWrittenObject : json.Json → Object → Type 0
  IsWrittenObject j o =
      let p = decoded (outline (object_data pool o)) in
      IsSameObject vs ws j p × AreShown ws (list_at (codes "geometry") p) o.body.geometry

module _ (vs ws : json.Items) (ps pool : List Point) (small : length pool < 2 ^ 63) (show : Show vs ps)
    (show_written : Show ws pool) where
  module _ (js : json.Members) (d : Data) (g : Geometry) (o : IsGeometryOf ps d g)
      (read : of_members (encoded_members false js) no_members ≡ Some o.ms) (numbers : MembersHaveNumbers js)
      (within : are_in pool (geometry_points g) ≡ true) where
    abbrev bounds : Data
    bounds = boundaries_data pool g.shape

    abbrev parts : Members
    parts =
        put (codes "boundaries") bounds
        (put (codes "lod") (string g.lod) (put (codes "type") (string (shape_name g.shape)) g.extra))

    parts_ordered : AreOrdered parts
    parts_ordered = rw o.extra (search (ordered, read) depth 12)

    placed_read : option_map (placed vs) (look.get_member (codes "boundaries") js) ≡ Some (shown_shape g.shape)
    placed_read =
        let found = found_read false (codes "boundaries") js o.ms o.bounds read o.boundaries in
        let same = itself found.0 o.bounds found.2 o.plain in
        rw found.1 (ap Some (o.shows vs show found.0 (rw same.0 at found.2)))

    placed_written : IsShown ws (json.object (decoded_members false (members_outline parts))) g
    placed_written =
        rw (decoded_members_at false (codes "boundaries") parts (Some bounds) parts_ordered (simp lookups))
        (simp (plain_decoded bounds (boundaries_plain pool small g.shape within))
        (ap Some (shape_written pool small ws show_written g.shape within)))

    part_same : (name : List ℕ) → has_id (codes "boundaries" ∷ []) name ≡ false
        → get_member name parts ≡ get_member name o.ms
    part_same name apart =
        by_id name (codes "type") (λ e. rw (e, o.type) (simp lookups))
        (λ t. by_id name (codes "lod") (λ e. rw (e, o.lod) (simp lookups))
        (λ l. rw o.extra (simp (lookups, (apart_from (codes "boundaries" ∷ []) name apart).0, l, t))))

    geometry_written : IsWritten vs ws pool (json.object js) g
    geometry_written =
        let type : get_member (codes "type") parts ≡ Some (string (shape_name g.shape)) = simp lookups in
        rw (decoded_object parts (no_number (codes "type") refl parts _ type)) (
          record {
            names = ascend_decoded false parts parts_ordered;
            members = λ name apart.
                member_same false name js o.ms parts refl numbers read parts_ordered (part_same name apart);
            boundaries = placed_written ∙ sym placed_read;
          },
          placed_written,
        )

  geometry_same : (j : json.Json) (d : Data) (g : Geometry) → HasNumbers j → of_json (encoded j) ≡ Some d
      → geometry_of ps d ≡ Some g → are_in pool (geometry_points g) ≡ true → IsWritten vs ws pool j g
  geometry_same j d g numbers is h within =
      let o = geometry_read ps d g h in
      let found = object_read (get_member (codes "type")) _ j o.ms (λ s. refl) o.type (is ∙ ap Some o.is) in
      rw found.is (geometry_written found.ms d g o found.read (rw found.is at numbers) within)

  geometries_same : (js : json.Items) (ds : Items) (gs : List Geometry) → ItemsHaveNumbers js
      → of_items (encoded_items js) ≡ Some ds → read_items (geometry_of ps) ds ≡ Some gs
      → are_in pool (flat_map geometry_points gs) ≡ true → AreWritten vs ws pool js gs
  geometries_same json.no_items ds [] numbers is h within = (tt, tt)
  geometries_same (json.item j js) ds (g ∷ gs) numbers is h within =
      let d = bound _ (of_json (encoded j)) ds is in
      let more = mapped (item d.0) (of_items (encoded_items js)) ds d.2 in
      let apart = list_all-append (is_in pool) (geometry_points g) (flat_map geometry_points gs) in
      let first = geometry_same j d.0 g numbers.0 d.1 (grind arith) (grind arith) in
      let later = geometries_same js more.0 gs numbers.1 more.1 (grind arith) (grind arith) in
      ((first.0, later.0), (first.1, later.1))
  geometries_same js ds gs numbers is h within = grind arith

  module _ (js : json.Members) (d : Data) (o : Object) (p : IsObjectOf ps d o)
      (read : of_members (encoded_members false js) no_members ≡ Some p.ms) (numbers : MembersHaveNumbers js)
      (within : are_in pool (object_points o) ≡ true) where
    -- the geometries read are written
    geometries_written : (r : Option Data) → get_member (codes "geometry") p.ms ≡ r
        → list_or_absent (geometry_of ps) r ≡ Some o.body.geometry
        → AreWritten vs ws pool (list_at (codes "geometry") (json.object js)) o.body.geometry
    geometries_written None at h =
        rw (none_read false (codes "geometry") js p.ms read at, ← Some_inj _ _ h) (tt, tt)
    geometries_written (Some d) at h =
        let ds = and_then_some _ (as_array d) o.body.geometry h in
        let found = found_read false (codes "geometry") js p.ms d read at in
        let list = array_read found.0 ds.0 (found.2 ∙ ap Some (array_is d ds.0 ds.1)) in
        let there = found.1 ∙ ap Some list.1 in
        rw there
        (geometries_same list.0 ds.0 o.body.geometry (rw there at (numbers_at (codes "geometry") js numbers)) list.2
        ds.2 within)

    abbrev all : Members
    all = object_all pool o

    all_ordered : AreOrdered all
    all_ordered = rw p.extra (search (ordered, read) depth 12)

    there : look.get_member (codes "geometry") (decoded_members false (members_outline all))
        ≡ option_map (value_at false (codes "geometry")) (listed (geometry_data pool) o.body.geometry)
    there = decoded_members_at false (codes "geometry") all _ all_ordered (rw p.extra (simp lookups))

    list_there : list_at (codes "geometry") (json.object (decoded_members false (members_outline all)))
        ≡ decoded_items (items_outline (items_of (map (geometry_data pool) o.body.geometry)))
    list_there = rw there (listed_both (geometry_data pool) o.body.geometry).0

    same_at : (name : List ℕ) → has_id (codes "geometry" ∷ codes "parents" ∷ codes "children" ∷ []) name ≡ false
        → get_member name all ≡ get_member name p.ms
    same_at name apart =
        let a = apart_from (codes "geometry" ∷ codes "parents" ∷ codes "children" ∷ []) name apart in
        by_id name (codes "type") (λ e. rw (e, p.type) (simp lookups))
        (λ t. rw p.extra (simp (lookups, a.0, a.1.0, a.1.1.0, t)))

    object_written : IsWrittenObject vs ws pool (json.object js) o
    object_written =
        let geometries = geometries_written (get_member (codes "geometry") p.ms) refl p.geometry in
        rw (object_decoded pool o) (
          record {
            names = ascend_decoded false all all_ordered;
            members = λ name apart.
                member_same false name js p.ms all refl numbers read all_ordered (same_at name apart);
            parents = decoded_members_at false (codes "parents") all (listed string o.parents) all_ordered
                (rw p.extra (simp lookups))
                ∙ ids_same (codes "parents") js p.ms o.parents _ (λ j. refl) (λ j. refl) read refl p.parents;
            children = decoded_members_at false (codes "children") all (listed string o.children) all_ordered
                (rw p.extra (simp lookups))
                ∙ ids_same (codes "children") js p.ms o.children _ (λ j. refl) (λ j. refl) read refl p.children;
            geometry = rw list_there geometries.0;
            not_empty = ap unless_empty there ∙ (listed_both (geometry_data pool) o.body.geometry).1 ∙ sym there;
          },
          rw list_there geometries.1,
        )

  pub object_same : (j : json.Json) (d : Data) (o : Object) → HasNumbers j → of_json (encoded j) ≡ Some d
      → object_of ps d ≡ Some o → are_in pool (object_points o) ≡ true → IsWrittenObject vs ws pool j o
  object_same j d o numbers is h within =
      let p = object_parts ps d o h in
      let found = object_read (get_member (codes "type")) _ j p.ms (λ s. refl) p.type (is ∙ ap Some p.is) in
      rw found.is (object_written found.ms d o p found.read (rw found.is at numbers) within)

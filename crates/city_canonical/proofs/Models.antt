-- A model read from an encoded one, then written and decoded, is the same model.
use Rattle.city_canonical.proofs.Prelude.{arith, ◌≡◌, ℕ, zero, suc, List, [], ◌∷◌, Bool, true, false, cond, Option}
use Rattle.city_canonical.proofs.Prelude.{Some, None, nat_cmp, codes, refl, sym, ap, subst, ◌∙◌, map, flat_map}
use Rattle.city_canonical.proofs.Prelude.{option_map, option_and_then, slice_cmp, All, and_parts, All-nil, All-cons}
use Rattle.city_canonical.proofs.Prelude.{All-weaker, list_all-append, is_eq-slice_cmp, bytes_eq-Decides, HasNumbers}
use Rattle.city_canonical.proofs.Prelude.{MembersHaveNumbers, Some_inj, not_found, Data, string, array, object, Items}
use Rattle.city_canonical.proofs.Prelude.{Members, no_members, member, put, get_member, of_json, of_members, items_of}
use Rattle.city_canonical.proofs.Prelude.{outline, items_outline, members_outline, Geometry, Object, Point, CityValue}
use Rattle.city_canonical.proofs.Prelude.{same_id, has_id, AreOrdered, by_id, is_shielded, has_shield, only, encoded}
use Rattle.city_canonical.proofs.Prelude.{encoded_members, encoded_top, number_in, decoded_members, decoded_top}
use Rattle.city_canonical.proofs.Prelude.{geometry_points, object_points, pool_of, IsInRange, transform_data, tree_of}
use Rattle.city_canonical.proofs.Prelude.{object_data, vertex_data, object_of, read_items, point_of, and_then_some}
use Rattle.city_canonical.proofs.Prelude.{is_in, are_in, array_is, object_is, or_empty, list_at}
use Rattle.std.specs.FinMap.{entries}
use Rattle.std.specs.List.{Contains}
use Rattle.std.proofs.lemmas.Cmp.{nat_list_cmp_total, eq_by_cmp_equiv}
use Rattle.std.proofs.lemmas.List.Elements.{All-contains_itself}
use Rattle.std.proofs.lemmas.Map.Keys.{IsDistinct-from_sorted}
use Rattle.std.proofs.lemmas.Map.Views.{lookup-from_Contains}
use Rattle.city_model.specs.CityMap.{Entries, found_in}
use Rattle.city_model.proofs.Objects.{at_entries, entries_ascend}
use Rattle.city_writer.specs.Pool.{city_points}
use Rattle.city_writer.specs.document.Canonical.{frame_members}
use Rattle.city_writer.specs.object.Canonical.{objects_data}
use Rattle.city_writer.specs.shape.Vertices.{vertices_data}
use Rattle.city_tokens.specs.document.Cities.{entries_of, objects_of, city_of}
use Rattle.city_tokens.specs.tree.Members.{is_text}
use Rattle.city_doc.proofs.Laws.{points_in_pool, in_turn, written_in_turn, ordered_in_turn, at_listed, found}
use Rattle.city_doc.proofs.Laws.{frame_parts, stands_for}
use Rattle.city_canonical.specs.Members.{IsInOrder, IsSameAt}
use Rattle.city_canonical.specs.Same.{IsUsed, IsSameObjectOrNone, IsSameModel}
use Rattle.city_canonical.proofs.CityObjects.{IsShown, AreShown, object_same, object_decoded}
use Rattle.city_canonical.proofs.Members.{IsRead, member_read, value_at, object_read, found_read, read_members, lookups}
use Rattle.city_canonical.proofs.Members.{ordered, ascend_decoded, decoded_members_at, no_number, decoded_object}
use Rattle.city_canonical.proofs.Members.{Numbers, numbers_at, member_same, apart_from, IsFrameOf, frame_read}
use Rattle.city_canonical.proofs.Members.{transform_same}
use Rattle.city_canonical.proofs.Boundaries.{Show, shown_point, shown_shape, shows_read, shows_written, ArePlain}
use Rattle.city_canonical.proofs.Boundaries.{vertices_plain, itself, plain_decoded, IsIn, all_at, all_repeats, all_flat}
use Rattle.city_canonical.proofs.Boundaries.{vertex_at, vertices_once, shape_part}
use Rattle.json.specs.Json as json
use Rattle.json.specs.Find as look
use Rattle.city_model.specs.CityMap as city

-- ---- the source of a city

record IsCityOf (ms : Members) (c : CityValue) : Type 0 where
  type : get_member (codes "type") ms ≡ Some (string (codes "CityJSON"))
  version : get_member (codes "version") ms ≡ Some (string (codes "2.0"))
  frame : IsFrameOf ms c.0
  objs : Members
  objects : get_member (codes "CityObjects") ms ≡ Some (object objs)
  dvs : Items
  vertices : get_member (codes "vertices") ms ≡ Some (array dvs)
  ps : List Point
  points : read_items point_of dvs ≡ Some ps
  list : Entries
  entries_are : entries_of ps objs ≡ Some list
  made : c.1 ≡ objects_of list

text_is : (text : List ℕ) (o : Option Data) → is_text text o ≡ true → o ≡ Some (string text)
text_is text o h = grind (arith, bytes_eq-Decides)

city_parts : (d : Data) (c : CityValue) → city_of d ≡ Some c → (ms : Members) × (d ≡ object ms) × IsCityOf ms c
city_parts d c h =
    let s = stands_for d c h in
    let frame = frame_parts d c.0 s.frame in
    let is = object_is d frame.top frame.is_top in
    (frame.top, is, search (arith, codes, text_is, frame_read, object_is, array_is, and_then_some, and_parts))

-- the top was read from an object
top_read : (j : json.Json) (ms : Members) (d : Data) → of_json (encoded_top j) ≡ Some (object ms)
    → get_member (codes "type") ms ≡ Some d
    → (js : json.Members) × (j ≡ json.object js) × (of_members (encoded_members true js) no_members ≡ Some ms)
top_read j ms d is h = grind arith

-- ---- objects by their ids

turn_at : (pool : List Point) (es : Entries) (id : List ℕ)
    → get_member id (in_turn pool es) ≡ option_map (object_data pool) (found_in es id)
turn_at pool [] id = refl
turn_at pool (e ∷ es) id = grind (arith, turn_at pool es id)

turn_number : (pool : List Point) (es : Entries) → number_in (members_outline (in_turn pool es)) ≡ None
turn_number pool (e ∷ []) = refl
turn_number pool es = refl

found_none : (ps : List Point) (ms : Members) (es : Entries) (id : List ℕ) → entries_of ps ms ≡ Some es
    → get_member id ms ≡ None → found_in es id ≡ None
found_none ps no_members es id read h = grind arith
found_none ps (member k x ms) es id read h = grind (arith, found_none ps ms)

-- the points of an object are among the city's
points_within : (pool : List Point) (es : Entries) (id : List ℕ) (o : Object)
    → are_in pool (flat_map (λ e. object_points e.1) es) ≡ true → found_in es id ≡ Some o
    → are_in pool (object_points o) ≡ true
points_within pool [] id o all h = not_found o h
points_within pool (e ∷ es) id o all h =
    let apart = list_all-append (is_in pool) (object_points e.1) (flat_map (λ e. object_points e.1) es) in
    grind (arith, apart, points_within pool es id o)

-- an id is no shielded name
bare_read : (ps : List Point) (id : List ℕ) (j : json.Json) (d : Data) (o : Object) (b : Bool)
    → is_shielded id j ≡ b → member_read false id j ≡ Some d → object_of ps d ≡ Some o
    → of_json (encoded j) ≡ Some d
bare_read ps id j d o b e is h = grind arith

only_object : (b : Bool) (r : json.Json) (ms : json.Members) → r ≡ json.object ms → cond b (only r) r ≡ r
only_object b r ms e = grind arith

-- ---- objects showing their shapes

abbrev IsShownAt : json.Items → Option json.Json → Option Object → Type 0
IsShownAt ws h None = Unit {0}
IsShownAt ws h (Some o) =
    (j : json.Json) × (h ≡ Some j) × AreShown ws (list_at (codes "geometry") j) o.body.geometry

-- a property of each shown geometry holds of all
all_shown : (ws hs : json.Items) (gs : List Geometry) (P : Geometry → Type 0) → AreShown ws hs gs
    → ((n : ℕ) (h : json.Json) (g : Geometry) → look.get_item n hs ≡ Some h → IsShown ws h g → P g) → All P gs
all_shown ws json.no_items [] P s each = All-nil P
all_shown ws (json.item h hs) (g ∷ gs) P s each =
    All-cons P g gs (each zero h g refl s.0) (all_shown ws hs gs P s.1 (λ n. each (suc n)))
all_shown ws hs gs P s each = absurd s

points_plain : (ps : List Point) → ArePlain (items_of (map vertex_data ps))
points_plain [] = tt
points_plain (p ∷ ps) = ((tt, (tt, (tt, tt))), points_plain ps)

-- ---- the model

module _ (js : json.Members) (ms : Members) (c : CityValue) (numbers : MembersHaveNumbers js)
    (read : of_members (encoded_members true js) no_members ≡ Some ms) (p : IsCityOf ms c)
    (range : IsInRange (pool_of c) c.0) where
  abbrev pool : List Point
  pool = pool_of c

  abbrev all : Members
  all =
      put (codes "CityObjects") (objects_data pool (entries c.1))
      (put (codes "vertices") (vertices_data pool) (frame_members c.0))

  abbrev back : json.Json
  back = json.object (decoded_members true (members_outline all))

  all_ordered : AreOrdered all
  all_ordered = rw p.frame.extra (search (ordered, read) depth 12)

  -- kept members

  transform_is : IsSameAt (json.object js) back (codes "transform")
  transform_is =
      let t = found_read true (codes "transform") js ms p.frame.transform read p.frame.there in
      decoded_members_at true (codes "transform") all (Some (transform_data c.0)) all_ordered (simp lookups)
      ∙ rw t.1
      (ap Some (transform_same ms c.0 p.frame t.0 (rw t.1 at (numbers_at (codes "transform") js numbers)) t.2))

  same_at : (name : List ℕ) → has_id (codes "CityObjects" ∷ codes "vertices" ∷ []) name ≡ false
      → same_id name (codes "transform") ≡ false → get_member name all ≡ get_member name ms
  same_at name apart t =
      let a = apart_from (codes "CityObjects" ∷ codes "vertices" ∷ []) name apart in
      by_id name (codes "type") (λ e. rw (e, p.type) (simp lookups))
      (λ y. by_id name (codes "version") (λ e. rw (e, p.version) (simp lookups))
      (λ v. rw p.frame.extra (simp (lookups, a.0, a.1.0, t, y, v))))

  member_is : (name : List ℕ) → has_id (codes "CityObjects" ∷ codes "vertices" ∷ []) name ≡ false
      → IsSameAt (json.object js) back name
  member_is name apart =
      by_id name (codes "transform") (λ e. rw e transform_is)
      (λ t. member_same true name js ms all (sym (is_eq-slice_cmp name (codes "transform")) ∙ t) numbers read
      all_ordered (same_at name apart t))

  -- vertices

  vertices_read : list_at (codes "vertices") (json.object js) ≡ items_outline p.dvs
  vertices_read =
      let found = found_read true (codes "vertices") js ms (array p.dvs) read p.vertices in
      rw (found.1, (itself found.0 (array p.dvs) found.2 (vertices_plain (array p.dvs) p.ps p.points)).1) refl

  vertices_back : list_at (codes "vertices") back ≡ items_outline (items_of (map vertex_data pool))
  vertices_back =
      rw (decoded_members_at true (codes "vertices") all (Some (vertices_data pool)) all_ordered (simp lookups))
      (ap (λ j. or_empty (look.as_array j)) (plain_decoded (vertices_data pool) (points_plain pool)))

  abbrev vs : json.Items
  vs = list_at (codes "vertices") (json.object js)

  abbrev ws : json.Items
  ws = list_at (codes "vertices") back

  show : Show vs p.ps
  show = rw vertices_read (shows_read p.dvs p.ps p.points)

  show_written : Show ws pool
  show_written = rw vertices_back (shows_written pool)

  -- objects

  abbrev turn : Members
  turn = in_turn pool (entries c.1)

  abbrev turned : json.Members
  turned = decoded_members false (members_outline turn)

  turn_ordered : AreOrdered turn
  turn_ordered = ordered_in_turn pool (entries c.1) (entries_ascend c.1)

  objects_there : look.get (codes "CityObjects") back ≡ Some (json.object turned)
  objects_there =
      decoded_members_at true (codes "CityObjects") all (Some (objects_data pool (entries c.1))) all_ordered
      (simp lookups)
      ∙ rw (written_in_turn pool (entries c.1) (entries_ascend c.1))
      (ap Some (decoded_object turn (turn_number pool (entries c.1))))

  ids_in_order : (o : json.Json) → look.get (codes "CityObjects") back ≡ Some o → IsInOrder o
  ids_in_order o is = subst IsInOrder (Some_inj _ _ (sym objects_there ∙ is)) (ascend_decoded false turn turn_ordered)

  objects_were : (os : json.Members) × (look.get_member (codes "CityObjects") js ≡ Some (json.object os))
      × (of_members (encoded_members false os) no_members ≡ Some p.objs) × MembersHaveNumbers os
  objects_were =
      let found = found_read true (codes "CityObjects") js ms (object p.objs) read p.objects in
      let o = object_read (entries_of p.ps) p.list found.0 p.objs (λ s. refl) p.entries_are found.2 in
      let there = found.1 ∙ ap Some o.is in
      (o.ms, there, o.read, rw there at (numbers_at (codes "CityObjects") js numbers))

  turn_found : (id : List ℕ) (r : Option Object) → found_in (entries c.1) id ≡ r
      → look.get_member id turned ≡ option_map (value_at false id) (option_map (object_data pool) r)
  turn_found id r is =
      decoded_members_at false id turn (option_map (object_data pool) r) turn_ordered
      (turn_at pool (entries c.1) id ∙ ap (option_map (object_data pool)) is)

  same_found : (id : List ℕ) → found_in (entries c.1) id ≡ found_in p.list id
  same_found id = ap (λ m. m id) (sym (at_entries c.1)) ∙ ap (λ x. city.object_at x id) p.made
      ∙ ap (λ m. m id) (at_listed p.list)

  object_step : (id : List ℕ) (j : Option json.Json) → Numbers j → IsRead false id None j (get_member id p.objs)
      → IsSameObjectOrNone vs ws j (look.get_member id turned)
      × IsShownAt ws (look.get_member id turned) (found_in (entries c.1) id)
  object_step id None numbers is =
      let none = same_found id ∙ found_none p.ps p.objs p.list id p.entries_are is in
      rw (turn_found id None none, none) (tt, tt)
  object_step id (Some j) numbers is =
      let f = found p.ps p.objs p.list id is.0 p.entries_are is.2 in
      let here = same_found id ∙ f.2 in
      let value = turn_found id (Some f.0) here ∙ ap Some (only_object (has_shield id _) _ _
      (object_decoded pool f.0)) in
      let same = object_same vs ws p.ps pool range.fewer show show_written j is.0 f.0 numbers
      (bare_read p.ps id j is.0 f.0 _ refl is.1 f.1) f.1
      (points_within pool (entries c.1) id f.0 (points_in_pool (city_points c)) here) in
      rw (value, here) (same.0, (_, refl, same.1))

  object_there : (id : List ℕ)
      → IsSameObjectOrNone vs ws (look.get_member id objects_were.0) (look.get_member id turned)
      × IsShownAt ws (look.get_member id turned) (found_in (entries c.1) id)
  object_there id =
      object_step id (look.get_member id objects_were.0) (numbers_at id objects_were.0 objects_were.3)
      (read_members false id objects_were.0 no_members p.objs objects_were.2)

  -- vertices are used

  abbrev Uses : Point → Type 0
  Uses q = IsUsed back (shown_point q)

  entry_used : (e : List ℕ × Object) → Contains (entries c.1) e → All Uses (object_points e.1)
  entry_used e there =
      let here = lookup-from_Contains (eq_by_cmp_equiv nat_list_cmp_total) e.0 e.1 (entries c.1)
      (IsDistinct-from_sorted (slice_cmp nat_cmp) _ (entries_ascend c.1)) there in
      let h = subst (IsShownAt ws (look.get_member e.0 turned)) here (object_there e.0).1 in
      all_flat Uses geometry_points e.1.body.geometry
      (all_shown ws (list_at (codes "geometry") h.0) e.1.body.geometry (λ g. All Uses (geometry_points g)) h.2
      (λ n i g at s. All-weaker (IsIn (shown_shape g.shape)) Uses (λ q part. record {
        id = e.0;
        owner = h.0;
        there = ap (option_and_then (look.get e.0)) objects_there ∙ h.1;
        index = n;
        geometry = i;
        has = at;
        boundaries = shown_shape g.shape;
        bounds = s;
        part = part;
      }) (geometry_points g) (shape_part g.shape)))

  vertex_used : (n : ℕ) (v : json.Json) → look.get_item n ws ≡ Some v → IsUsed back v
  vertex_used n v is =
      let q = vertex_at pool n v (rw vertices_back at is) in
      let es = entries c.1 in
      let each = All-weaker (Contains es) (λ e. All Uses (object_points e.1)) entry_used es (All-contains_itself es) in
      subst (IsUsed back) q.2
      (all_at Uses pool n q.0 (all_repeats Uses (city_points c) (all_flat Uses (λ e. object_points e.1) es each)) q.1)

  top_same : IsSameModel (json.object js) (decoded_top (outline (tree_of c)))
  top_same =
      let first : get_member (codes "CityObjects") all ≡ Some (objects_data pool (entries c.1)) = simp lookups in
      rw (no_number (codes "CityObjects") refl all _ first)
      (record {
        names = ascend_decoded true all all_ordered;
        ids = ids_in_order;
        members = member_is;
        objects = λ id. rw (objects_were.1, objects_there) (object_there id).0;
        once = rw vertices_back (vertices_once (city_points c) range.points);
        used = vertex_used;
      })

-- a model read and written is the same
pub model_same : (j : json.Json) (d : Data) (c : CityValue) → HasNumbers j → of_json (encoded_top j) ≡ Some d
    → city_of d ≡ Some c → IsInRange (pool_of c) c.0 → IsSameModel j (decoded_top (outline (tree_of c)))
model_same j d c numbers is stands range =
    let p = city_parts d c stands in
    let top = top_read j p.0 (string (codes "CityJSON")) (is ∙ ap Some p.1) p.2.type in
    rw top.1 (top_same top.0 p.0 c (rw top.1 at numbers) top.2 p.2 range)

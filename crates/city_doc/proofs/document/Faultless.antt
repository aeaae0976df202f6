-- The faults told of the objects of a tree are those of the tree; if there are none, the tree has a lawful city.
use Rattle.city_doc.proofs.Prelude.{◌≡◌, ℕ, List, true, Option, Some, None, refl, sym, ap, subst, ◌∙◌, arith, []}
use Rattle.city_doc.proofs.Prelude.{Bool, false, option_and_then, codes, is_some, and_parts, Data, not, ◌&&◌, fun_ext}
use Rattle.city_doc.proofs.Prelude.{Members, no_members, member, get_member, as_object, Frame, Point, Entries}
use Rattle.city_doc.proofs.Prelude.{kept_at_top, transform_members, is_empty_object_or_absent, has_open_shell}
use Rattle.city_doc.proofs.Prelude.{without, AreOrdered, IsLawful, IsRelated, is_integral, members_integral}
use Rattle.city_doc.proofs.Prelude.{get_member-without, found_in, some_shape, body_fault, is_bad_ringed}
use Rattle.city_doc.proofs.Prelude.{ReadFault, or_empty, city_of, objects_of, members_of, objects_in, vertices_in}
use Rattle.city_doc.proofs.Prelude.{is_unsupported, without_top_members, frame_of_rest, has_triple, wrong_member}
use Rattle.city_doc.proofs.Prelude.{◌∷◌, is_transform, all_objects, are_all_objects, entries_of, object_of}
use Rattle.city_doc.proofs.Prelude.{is_unknown_type, is_bad_geometry, has_bad_vertex, has_bad_list, lenient_map_of}
use Rattle.city_doc.proofs.Prelude.{lenient_object_of, length}
use Rattle.city_doc.proofs.Prelude.{as_object-integral, get_member-integral, object_with, object_is, triple_of, Body}
use Rattle.city_doc.proofs.Prelude.{Object, body_of, and_then_some, map_some, read_entries, UnknownType, Unsupported}
use Rattle.city_doc.proofs.Prelude.{BadGeometry, BadVertex, BadRing, Relations, OpenShell, inl, inr, CityValue}
use Rattle.city_doc.proofs.Prelude.{option_map, object_at, listed_again, at_entries}
use Rattle.city_tokens.specs.document.FramesOfRest.{frame_with}
use Rattle.city_model.specs.internal.RelationTests.{is_misrelated}
use Rattle.city_model.specs.Relations.{IsInOrder, is_orphan}
use Rattle.city_model.proofs.Lawfulness.{misrelated_true, misrelated_false}
use Rattle.std.specs.Prelude.{◌==◌}
use Rattle.city_doc.specs.document.AllFaults.{StandsAt, is_misplaced, AreThose, IsFaultOfTree}
use Rattle.city_doc.specs.document.CityFaults.{body_has}
use Rattle.city_doc.specs.object.Faults.{unsupported_name}
use Rattle.city_doc.specs.internal.document.ReadObjects.{all_built, city_from, objects_taken, objects_among}
use Rattle.city_doc.specs.internal.document.ReadObjects.{ReadEntries, listed}
use Rattle.city_doc.specs.internal.document.Told.{all_told, told_behind, AreBegun}
use Rattle.city_doc.proofs.document.AllFaults.{those_read}
use Rattle.city_doc.proofs.document.Begun.{those_begun, none_begun}
use Rattle.city_doc.proofs.document.Finders.{told_all}
use Rattle.city_doc.proofs.document.KeptMembers.{kept_all, left_whole, top_admitted}
use Rattle.city_doc.proofs.document.NoFault.{found-lenient, lenient}
use Rattle.city_doc.proofs.document.Searches.{here, there}
use Rattle.city_doc.proofs.object.ReadBodies.{body_of-some}
use Rattle.city_doc.proofs.document.Right.{is_right, has_points, objects_at, city_joined, some_of}

-- ---- the frame

transform_read : (extra : Members) (t : Data) → is_integral t ≡ true → is_transform (Some t) ≡ true
    → is_some (frame_with extra t) ≡ true
transform_read extra t integral h =
    let hs = and_parts (has_triple (codes "scale") t) (has_triple (codes "translate") t) h in
    let ms = object_with (λ o. is_some (option_and_then triple_of o)) refl (codes "scale") t hs.0 in
    let kept = left_whole transform_members ms.0 (as_object-integral t ms.0 integral ms.1) in
    grind arith

frame_read : (top : Members) → members_integral top ≡ true
    → is_empty_object_or_absent (get_member (codes "extensions") top) ≡ true
    → is_transform (get_member (codes "transform") top) ≡ true
    → is_some (frame_of_rest (without (codes "CityObjects") top)) ≡ true
frame_read top integral extensions transform =
    let kept = kept_all kept_at_top (without_top_members top) (top_admitted top integral extensions) in
    let stays = get_member-without (codes "transform") (codes "CityObjects") top refl in
    let each = get_member-integral (codes "transform") top in
    grind (arith, transform_read)

-- ---- the objects

-- the tree of an object that can be read, by its tests
record IsSound (points : List Point) (d : Data) : Type 0 where
  known : is_unknown_type d ≡ false
  supported : is_unsupported d ≡ false
  placed : has_bad_vertex (length points) d ≡ false
  lists : has_bad_list d ≡ false

object_made : (points : List Point) (d : Data) (b : Body) → has_bad_list d ≡ false → body_of points d ≡ Some b
    → is_some (object_of points d) ≡ true
object_made points d b lists is = grind arith

entry_read : (points : List Point) (id : List ℕ) (d : Data) (ms : Members) (o : Object) (es : Entries)
    → object_of points d ≡ Some o → entries_of points ms ≡ Some es
    → entries_of points (member id d ms) ≡ Some ((id, o) ∷ es)
entry_read points id d ms o es one rest = rw (one, rest) refl

entry_built : (points : List Point) (id : List ℕ) (d : Data) (ms : Members) (o : Object) (es : Entries)
    → lenient_object_of points d ≡ Some o → all_built (read_entries points ms) ≡ Some es
    → all_built (read_entries points (member id d ms)) ≡ Some ((id, o) ∷ es)
entry_built points id d ms o es one rest = rw (one, rest) refl

objects_read : (points : List Point) (ms : Members) → members_integral ms ≡ true → all_objects ms ≡ true
    → AreOrdered ms → ((id : List ℕ) (d : Data) → get_member id ms ≡ Some d → IsSound points d)
    → (es : Entries) × (entries_of points ms ≡ Some es) × (all_built (read_entries points ms) ≡ Some es)
objects_read points no_members integral are o each = ([], refl, refl)
objects_read points (member id d ms) integral are o each =
    let w = and_parts (is_integral d) (members_integral ms) integral in
    let a = and_parts (is_some (as_object d)) (all_objects ms) are in
    let s = each id d (here id d ms) in
    let body = body_of-some points d (record {
      integral = w.0;
      is_object = a.0;
      known = s.known;
      supported = s.supported;
      placed = s.placed;
    }) in
    let one = some_of (object_of points d) (object_made points d body.0 s.lists body.1) in
    let rest = objects_read points ms w.1 a.1 o.1 (λ k e at. each k e (there id k d e ms o.0 at)) in (
      (id, one.0) ∷ rest.0,
      entry_read points id d ms one.0 rest.0 one.1 rest.1,
      entry_built points id d ms one.0 rest.0 (lenient points d one.0 one.1) rest.2,
    )

body_sound : (body : Body) → is_bad_ringed body ≡ false → some_shape has_open_shell body ≡ false
    → body_fault body ≡ None
body_sound body rings shells = grind arith

misplaced_not : (bad wrong : Bool) → bad ≡ false → (not bad && wrong) ≡ false → wrong ≡ false
misplaced_not bad wrong h k = grind arith

-- no fault of these objects stands
module _ (points : List Point) (ms : Members) (none : (f : ReadFault) → StandsAt points ms f → ⊥) where
  -- no object passes the test of a kind
  out : (test : Data → Bool) (kind : List ℕ → ReadFault)
      → ((id : List ℕ) (d : Data) → get_member id ms ≡ Some d → test d ≡ true → StandsAt points ms (kind id))
      → (id : List ℕ) (d : Data) → get_member id ms ≡ Some d → test d ≡ false
  out test kind stands id d at = by (test d) refl
    where
      by : (b : Bool) → test d ≡ b → test d ≡ false
      by true is = absurd (none (kind id) (stands id d at is))
      by false is = is

  named_out : (id : List ℕ) (d : Data) → get_member id ms ≡ Some d → is_unsupported d ≡ false
  named_out id d at = by (unsupported_name d) refl
    where
      by : (o : Option (List ℕ)) → unsupported_name d ≡ o → is_unsupported d ≡ false
      by None is = ap is_some is
      by (Some name) is = absurd (none (Unsupported id name) (ap (option_and_then unsupported_name) at ∙ is))

  all_sound : (id : List ℕ) (d : Data) → get_member id ms ≡ Some d → IsSound points d
  all_sound id d at = record {
    known = out is_unknown_type (λ id. UnknownType id) (λ id d at is. (d, at, is)) id d at;
    supported = named_out id d at;
    placed = misplaced_not _ _ (out is_bad_geometry (λ id. BadGeometry id) (λ id d at is. (d, at, is)) id d at)
        (out (is_misplaced (length points)) (λ id. BadVertex id) (λ id d at is. (d, at, is)) id d at);
    lists = out has_bad_list (λ id. Relations id) (λ id d at is. inl (d, at, is)) id d at;
  }

  agree : IsRelated (lenient_map_of points ms)
  agree id o is = by (is_misrelated (lenient_map_of points ms) id o) refl
    where
      by : (b : Bool) → is_misrelated (lenient_map_of points ms) id o ≡ b
          → IsInOrder (lenient_map_of points ms) id o × (is_orphan o ≡ false)
      by true wrong = absurd (none (Relations id) (inr (o, is, misrelated_true (lenient_map_of points ms) id o wrong)))
      by false right = misrelated_false (lenient_map_of points ms) id o right

  -- the bodies of the objects have no fault
  bodies_sound : (id : List ℕ) (o : Object) → lenient_map_of points ms id ≡ Some o → body_fault o.body ≡ None
  bodies_sound id o is =
      let d = and_then_some (lenient_object_of points) (get_member id ms) o is in
      let body : body_of points d.0 ≡ Some o.body = let read = d.2 in grind arith in
      body_sound o.body
      (sym (ap (body_has is_bad_ringed) body)
      ∙ out (λ d. body_has is_bad_ringed (body_of points d)) (λ id. BadRing id) (λ id d at is. (d, at, is)) id d.0 d.1)
      (sym (ap (body_has (some_shape has_open_shell)) body)
      ∙ out (λ d. body_has (some_shape has_open_shell) (body_of points d)) (λ id. OpenShell id)
      (λ id d at is. (d, at, is)) id d.0 d.1)

  lawful_map : IsLawful (lenient_map_of points ms)
  lawful_map = (λ id o is. ((agree id o is).0, bodies_sound id o is), λ id o is. (agree id o is).1)

  pub lawful_of : (es : Entries) → entries_of points ms ≡ Some es → IsLawful (found_in es)
  lawful_of es read = subst IsLawful (sym (fun_ext (found-lenient points ms es read))) lawful_map

-- ---- the city

all_there : (o : Option Members) → are_all_objects o ≡ true
    → (o ≡ Some (members_of o)) × (all_objects (members_of o) ≡ true)
all_there o h = grind arith

objects_integral : (o : Option Data) → ((d : Data) → o ≡ Some d → is_integral d ≡ true)
    → members_integral (members_of (option_and_then as_object o)) ≡ true
objects_integral None each = refl
objects_integral (Some d) each = let whole = each d refl in grind arith

-- the members of the top, and the objects among them
pub record HasTop (d : Data) (ms rest : Members) : Type 0 where
  pub top : Members
  pub is_top : as_object d ≡ Some top
  pub are_objects : option_and_then as_object (get_member (codes "CityObjects") top) ≡ Some ms
  pub is_rest : without (codes "CityObjects") top ≡ rest

pub has_top : (d : Data) (ms rest : Members) → objects_taken d ≡ Some (ms, rest) → HasTop d ms rest
has_top d ms rest h =
    let top = and_then_some objects_among (as_object d) (ms, rest) h in
    let os = map_some _ (option_and_then as_object (get_member (codes "CityObjects") top.0)) (ms, rest) top.2 in
    record {
      top = top.0;
      is_top = top.1;
      are_objects = os.1 ∙ ap (λ p. Some p.0) (sym os.2);
      is_rest = sym (ap (λ p. p.1) os.2);
    }

-- a right top has objects
pub is_taken : (d : Data) → wrong_member d ≡ None → objects_taken d ≡ None → ⊥
is_taken d right none =
    let r = is_right d right in
    let top = object_with is_transform refl (codes "transform") d r.transform_is in
    let at = object_is d top.0 top.1 in
    let is = r.objects_are in
    grind arith

city_built : (es : ReadEntries) (rest : Members) (list : Entries) (frame : Frame) → all_built es ≡ Some list
    → frame_of_rest rest ≡ Some frame → city_from es rest ≡ Some (frame, list)
city_built es rest list frame built is = rw (built, is) refl

-- a tree without faults, of these objects and other members of its top, has a lawful city
pub record HasCity (d : Data) (es : ReadEntries) (rest : Members) : Type 0 where
  pub frame : Frame
  pub list : Entries
  pub built : city_from es rest ≡ Some (frame, list)
  pub city : city_of d ≡ Some (frame, objects_of list)
  pub lawful : IsLawful (found_in list)

has_city : (d : Data) (ms rest : Members) → is_integral d ≡ true → wrong_member d ≡ None → AreOrdered ms
    → HasTop d ms rest → ((f : ReadFault) → StandsAt (vertices_in d) ms f → ⊥)
    → HasCity d (read_entries (vertices_in d) ms) rest
has_city d ms rest integral right ordered t none =
    let r = is_right d right in
    let whole : members_integral t.top ≡ true = as_object-integral d t.top integral t.is_top in
    let at = object_is d t.top t.is_top in
    let frame = some_of (frame_of_rest (without (codes "CityObjects") t.top))
    (frame_read t.top whole (rw at at r.extensions_are) (rw at at r.transform_is)) in
    let all = all_there (option_and_then as_object (get_member (codes "CityObjects") t.top)) (rw at at r.objects_are) in
    let each = objects_integral (get_member (codes "CityObjects") t.top)
    (λ e. get_member-integral (codes "CityObjects") t.top e whole) in
    let among = ap members_of t.are_objects in
    let es = objects_read (vertices_in d) ms (rw among at each) (rw among at all.1) ordered
    (all_sound (vertices_in d) ms none) in
    let points = has_points d r in
    record {
      frame = frame.0;
      list = es.0;
      built = city_built (read_entries (vertices_in d) ms) rest es.0 frame.0 es.2
          (ap frame_of_rest (sym t.is_rest) ∙ frame.1);
      city = city_joined d t.top t.is_top ms t.are_objects (vertices_in d) es.0 frame.0 r
          (points.1 ∙ ap Some (sym (ap or_empty points.1))) es.1 frame.1;
      lawful = lawful_of (vertices_in d) ms none es.0 es.1;
    }

-- a city is built
pub not_missing : (d : Data) (es : ReadEntries) (rest : Members) (o : Option CityValue) → HasCity d es rest
    → option_map listed o ≡ city_from es rest → o ≡ None → ⊥
not_missing d es rest o h is none = let built = h.built in grind (arith, is, none)

listed_lawful : (d : Data) (c : CityValue) (frame : Frame) (list : Entries) → listed c ≡ (frame, list)
    → city_of d ≡ Some (frame, objects_of list) → IsLawful (found_in list)
    → (city_of d ≡ Some c) × IsLawful (object_at c.1)
listed_lawful d c frame list is city lawful = (
  city ∙ ap (λ l. Some (l.0, objects_of l.1)) (sym is) ∙ ap (λ objects. Some (c.0, objects)) (listed_again c.1),
  subst IsLawful (ap (λ l. found_in l.1) (sym is) ∙ sym (at_entries c.1)) lawful,
)

-- the city built is the one of the tree
pub city_is : (d : Data) (es : ReadEntries) (rest : Members) (c : CityValue) → HasCity d es rest
    → Some (listed c) ≡ city_from es rest → (city_of d ≡ Some c) × IsLawful (object_at c.1)
city_is d es rest c h is =
    let both : Some (listed c) ≡ Some (h.frame, h.list) = is ∙ h.built in
    let same : listed c ≡ (h.frame, h.list) = cc in
    listed_lawful d c h.frame h.list same h.city h.lawful

-- ---- what the searches tell of a tree with these points and objects

module _ (d : Data) (points : List Point) (ms rest : Members) (es : ReadEntries) (integral : is_integral d ≡ true)
    (right : wrong_member d ≡ None) (same : points ≡ vertices_in d) (taken : objects_taken d ≡ Some (ms, rest))
    (ordered : AreOrdered ms) (read : es ≡ read_entries points ms) where
  among : objects_in d ≡ ms
  among = let t = has_top d ms rest taken in objects_at d t.top t.is_top ms t.are_objects

  all_at : AreThose (StandsAt points ms) (all_told es)
  all_at = rw read (told_all points ms ordered)

  module _ (b : Bool) (found : List ReadFault) (is : found ≡ told_behind b [] (all_told es)) where
    pub some_found : (length found == 0) ≡ false → AreBegun b (IsFaultOfTree d) found
    some_found =
        those_begun (IsFaultOfTree d) b found _ (those_read d points ms _ integral right (sym same) among all_at) is

    pub none_found : (length found == 0) ≡ true → HasCity d es rest
    none_found none = subst (λ es. HasCity d es rest) (ap (λ ps. read_entries ps ms) (sym same) ∙ sym read)
        (has_city d ms rest integral right ordered (has_top d ms rest taken)
        (subst (λ ps. (f : ReadFault) → StandsAt ps ms f → ⊥) same
        (none_begun (StandsAt points ms) b found _ all_at is none)))

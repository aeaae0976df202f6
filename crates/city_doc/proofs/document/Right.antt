-- A tree with right members alone.
use Rattle.city_doc.proofs.Prelude.{◌≡◌, ℕ, List, ◌∷◌, Bool, true, true≢false, Option, Some, None, refl, sym, [], arith}
use Rattle.city_doc.proofs.Prelude.{ap, option_and_then, codes, is_some, Data, Items, no_items, item, Members, get, at}
use Rattle.city_doc.proofs.Prelude.{get_member, as_object, Point, is_empty_object_or_absent, read_items, is_city_json}
use Rattle.city_doc.proofs.Prelude.{points_in, city_of, entries_of, objects_of, is_text, is_transform, are_objects}
use Rattle.city_doc.proofs.Prelude.{are_vertices, wrong_member, triple_of, point_of, points_of, object_is, Frame}
use Rattle.city_doc.proofs.Prelude.{Entries, without, objects_in, frame_of_rest}
use Rattle.city_doc.specs.document.Top.{judged, first_wrong}
use Rattle.city_tokens.specs.tree.Triples.{integral_at, all_triples, are_all_triples}
use Rattle.city_tokens.proofs.Laws.{three_some, frame_is}

pub some_of : {X : Type 0} (o : Option X) → is_some o ≡ true → (x : X) × (o ≡ Some x)
some_of None h = absurd (true≢false (sym h))
some_of (Some x) h = (x, refl)

abbrev pub AllRight : List (List ℕ × Bool) → Type 0
AllRight [] = Unit {0}
AllRight (m ∷ ms) = (m.1 ≡ true) × AllRight ms

all_right : (ms : List (List ℕ × Bool)) → first_wrong ms ≡ None → AllRight ms
all_right [] h = tt
all_right (m ∷ ms) h = let rest = all_right ms in grind arith

pub record IsRight (d : Data) : Type 0 where
  pub type_is : is_text (codes "CityJSON") (get (codes "type") d) ≡ true
  pub version_is : is_text (codes "2.0") (get (codes "version") d) ≡ true
  pub transform_is : is_transform (get (codes "transform") d) ≡ true
  pub objects_are : are_objects (get (codes "CityObjects") d) ≡ true
  pub vertices_are : are_vertices (get (codes "vertices") d) ≡ true
  pub extensions_are : is_empty_object_or_absent (get (codes "extensions") d) ≡ true

pub is_right : (d : Data) → wrong_member d ≡ None → IsRight d
is_right d h = let r = all_right (judged d) h in assumption

point_some : (d : Data) → is_some (triple_of d) ≡ true → is_some (point_of d) ≡ true
point_some d h = three_some _ _ (is_some (at 3 d)) (integral_at 0 d) (integral_at 1 d) (integral_at 2 d) h

pub item_read : {A : Type 0} (read : Data → Option A) (d : Data) (ds : Items) (x : A) (xs : List A) → read d ≡ Some x
    → read_items read ds ≡ Some xs → read_items read (item d ds) ≡ Some (x ∷ xs)
item_read read d ds x xs one rest = rw (one, rest) refl

points_some : (ds : Items) → all_triples ds ≡ true → (ps : List Point) × (read_items point_of ds ≡ Some ps)
points_some no_items h = ([], refl)
points_some (item d ds) h = some_of (read_items point_of (item d ds)) (grind (arith, point_some, points_some ds))

pub array_some : (o : Option Items) → are_all_triples o ≡ true
    → (ps : List Point) × (option_and_then (read_items point_of) o ≡ Some ps)
array_some o h = grind (arith, points_some)

vertices_some : (o : Option Data) → are_vertices o ≡ true → (ps : List Point) × (option_and_then points_of o ≡ Some ps)
vertices_some o h = grind (arith, array_some)

pub has_points : (d : Data) → IsRight d → (ps : List Point) × (points_in d ≡ Some ps)
has_points d h = vertices_some (get (codes "vertices") d) h.vertices_are

pub get-object : (name : List ℕ) (d : Data) (ms : Members) → as_object d ≡ Some ms → get name d ≡ get_member name ms
get-object name d ms e = ap (get name) (object_is d ms e)

module _ (d : Data) (top : Members) (is_top : as_object d ≡ Some top) where
  pub objects_at : (ms : Members) → option_and_then as_object (get_member (codes "CityObjects") top) ≡ Some ms
      → objects_in d ≡ ms
  objects_at ms e = grind (arith, get-object)

  module _ (ms : Members) (are_objects : option_and_then as_object (get_member (codes "CityObjects") top) ≡ Some ms)
    where
      pub city_joined : (points : List Point) (es : Entries) (frame : Frame) → IsRight d → points_in d ≡ Some points
          → entries_of points ms ≡ Some es
          → frame_of_rest (without (codes "CityObjects") top) ≡ Some frame → city_of d ≡ Some (frame, objects_of es)
      city_joined points es frame right has_points read is_frame =
          let json : is_city_json d ≡ true = rw (right.type_is, right.version_is) refl in
          let at = frame_is d in
          grind (arith, get-object)

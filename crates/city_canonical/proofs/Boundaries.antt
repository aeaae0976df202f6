-- Data without objects was read from the very value written for it; boundaries are placed under any numbering of
-- points; written vertices are each there once, and each is in the boundaries of some geometry.
use Rattle.city_canonical.proofs.Prelude.{arith, ◌≡◌, ℕ, zero, suc, ℤ, List, [], ◌∷◌, Bool, cond, Option, Some, refl}
use Rattle.city_canonical.proofs.Prelude.{sym, ap, ◌∙◌, ◌<◌, length, true, option_and_then, ◌^◌, map, slice_get}
use Rattle.city_canonical.proofs.Prelude.{option_map, and_parts, bytes_eq-Decides, Some_inj, not_found, Data, array}
use Rattle.city_canonical.proofs.Prelude.{object, Items, no_items, item, as_str, of_json, of_items, outline}
use Rattle.city_canonical.proofs.Prelude.{items_outline, Point, encoded, encoded_items, decoded, decoded_items, mapped}
use Rattle.city_canonical.proofs.Prelude.{vertex_data, nested_of, read_items, list_of, point_of, points_of}
use Rattle.city_canonical.proofs.Prelude.{and_then_some, map_some, AllByRecursion, bytes_eq, items_of}
use Rattle.city_canonical.proofs.Prelude.{number_of-decimal, Shape, shape_points, boundaries_data, Nested, nested}
use Rattle.city_canonical.proofs.Prelude.{geometry_type, shape_name, are_in, placed, false, flat_map, All, All-nil}
use Rattle.city_canonical.proofs.Prelude.{All-cons, All-weaker}
use Rattle.std.proofs.Common.{ap₂, true≢false, not, inl, inr}
use Rattle.std.specs.Prelude.{find, filter}
use Rattle.serde_json.specs.Find.{as_number, as_i64, of_integer}
use Rattle.city_tokens.specs.shape.Geometries.{point_at}
use Rattle.city_tokens.specs.tree.Triples.{integral_at, three_of}
use Rattle.city_writer.specs.tree.Lists.{integer_data}
use Rattle.std.proofs.lemmas.List.Sums.{prefix_len-le-length, AllPass-from_list_all}
use Rattle.city_writer.specs.shape.Canonical.{point_data, nested_data}
use Rattle.city_tokens.specs.shape.GeometryTypes.{GeometryType, geometry_types}
use Rattle.city_doc.proofs.Laws.{nested_read, text_of_integer}
use Rattle.city_canonical.specs.Placed.{placed_items}
use lib.Signed.{mag}
use Rattle.std.specs.List.{list_all}
use Rattle.std.proofs.lemmas.Fmt.{signed_decimal_injective}
use Rattle.std.proofs.lemmas.List.Elements.{All-head, All-tail, All-append, All-filter, filter_passes}
use Rattle.std.proofs.lemmas.Option.{slice_get_within, get_or_from_slice_get}
use Rattle.serde_json.specs.Written.{number_text}
use Rattle.city_model.specs.Shells.{same_point}
use Rattle.city_writer.specs.Pool.{nested_points, without_repeats}
use Rattle.city_writer.specs.shape.Vertices.{is_i64_point}
use Rattle.city_writer.specs.tree.Ranges.{is_i64}
use Rattle.city_canonical.specs.Same.{IsEachOnce, IsPart, IsPartOfOne}
use Rattle.json.specs.Json as json
use Rattle.json.specs.Find as look

abbrev mutual
  pub IsPlain : Data → Type 0
  IsPlain (array ds) = ArePlain ds
  IsPlain (object ms) = ⊥
  IsPlain d = Unit {0}

  pub ArePlain : Items → Type 0
  ArePlain no_items = Unit {0}
  ArePlain (item d ds) = IsPlain d × ArePlain ds

-- ---- the value it was read from

-- it was encoded as itself, and is written as itself
mutual
  pub itself : (j : json.Json) (d : Data) → of_json (encoded j) ≡ Some d → IsPlain d
      → (encoded j ≡ j) × (j ≡ outline d)
  itself (json.number s) d is h = search (arith, mapped, bytes_eq-Decides, and_parts)
  itself (json.array js) d is h = grind (arith, themselves js)
  itself j d is h = grind arith

  themselves : (js : json.Items) (ds : Items) → of_items (encoded_items js) ≡ Some ds → ArePlain ds
      → (encoded_items js ≡ js) × (js ≡ items_outline ds)
  themselves json.no_items ds is h = grind arith
  themselves (json.item j js) ds is h = grind (arith, itself j, themselves js)

-- it is decoded as itself
mutual
  pub plain_decoded : (d : Data) → IsPlain d → decoded (outline d) ≡ outline d
  plain_decoded (array ds) h = ap json.array (plain_items ds h)
  plain_decoded (object ms) h = absurd h
  plain_decoded d h = refl

  plain_items : (ds : Items) → ArePlain ds → decoded_items (items_outline ds) ≡ items_outline ds
  plain_items no_items h = refl
  plain_items (item d ds) h = ap₂ json.item (plain_decoded d h.0) (plain_items ds h.1)

-- ---- readers of plain data only

abbrev pub ReadsPlain : {A : Type 0} → (Data → Option A) → Type 0
ReadsPlain {A} read = (d : Data) (x : A) → read d ≡ Some x → IsPlain d

pub text_plain : ReadsPlain as_str
text_plain d s h = grind arith

module _ {A : Type 0} (read : Data → Option A) (plain : ReadsPlain read) where
  items_plain : (ds : Items) (xs : List A) → read_items read ds ≡ Some xs → ArePlain ds
  items_plain no_items xs h = tt
  items_plain (item d ds) xs h = grind (arith, plain d, items_plain ds)

  pub list_plain : ReadsPlain (list_of read)
  list_plain d xs h = search (arith, items_plain, not_found)

pub nested_plain : (points : List Point) (n : ℕ) → ReadsPlain (nested_of points n)
nested_plain points zero = λ d p h. grind arith
nested_plain points (suc n) = list_plain (nested_of points n) (nested_plain points n)

-- ---- vertices

integer_is : (d : Data) (z : ℤ) → option_and_then as_i64 (as_number d) ≡ Some z
    → IsPlain d × (outline d ≡ outline (integer_data z))
integer_is d z h = search arith

-- data read as three whole numbers is written like a vertex
pub three_is : {A : Type 0} (make : ℤ → ℤ → ℤ → A) (d : Data) (r : A) → three_of make d ≡ Some r
    → (p : Point) × (r ≡ make p.x p.y p.z) × IsPlain d × (outline d ≡ outline (vertex_data p))
three_is make (array (item a (item b (item c no_items)))) r h =
    let ds = item a (item b (item c no_items)) in
    let x = and_then_some _ (integral_at 0 (array ds)) r h in
    let y = and_then_some _ (integral_at 1 (array ds)) r x.2 in
    let z = map_some _ (integral_at 2 (array ds)) r y.2 in
    let first = integer_is a x.0 x.1 in
    let second = integer_is b y.0 y.1 in
    let third = integer_is c z.0 z.1 in
    let p : Point = record { x = x.0; y = y.0; z = z.0 } in
    (p, z.2, (first.0, (second.0, (third.0, tt))), rw (first.1, second.1, third.1) refl)
three_is make d r h = grind arith

vertex_is : (d : Data) (p : Point) → point_of d ≡ Some p → IsPlain d × (outline d ≡ outline (vertex_data p))
vertex_is d p h = search (arith, three_is)

pub vertices_plain : ReadsPlain points_of
vertices_plain = list_plain point_of (λ d p h. (vertex_is d p h).0)

pub vertex_itself : (d : Data) (p : Point) → point_of d ≡ Some p → outline d ≡ outline (vertex_data p)
vertex_itself d p h = (vertex_is d p h).1

-- ---- vertices showing points

-- the value written for a point
abbrev pub shown_point : Point → json.Json
shown_point p = outline (vertex_data p)

-- at the index of each point is the value written for it
abbrev pub Show : json.Items → List Point → Type 0
Show vs ps = (m : ℕ) (p : Point) → slice_get ps m ≡ Some p → look.get_item m vs ≡ Some (shown_point p)

pub shows_read : (dvs : Items) (ps : List Point) → read_items point_of dvs ≡ Some ps → Show (items_outline dvs) ps
shows_read no_items ps h m p e = not_found p (ap (λ qs. slice_get qs m) (Some_inj _ _ h) ∙ e)
shows_read (item d ds) ps h zero p e = search (arith, and_then_some, map_some, vertex_itself)
shows_read (item d ds) ps h (suc m) p e = search (arith, and_then_some, map_some, shows_read ds)

pub shows_written : (ps : List Point) → Show (items_outline (items_of (map vertex_data ps))) ps
shows_written [] m p e = not_found p e
shows_written (q ∷ ps) m p e = grind (arith, shows_written ps)

-- ---- boundaries as read, with the vertices themselves

abbrev pub shown_list : {A : Type 0} → (A → json.Json) → List A → json.Items
shown_list f [] = json.no_items
shown_list f (x ∷ xs) = json.item (f x) (shown_list f xs)

abbrev pub shown : (n : ℕ) → Nested n → json.Json
shown zero = shown_point
shown (suc n) = λ xs. json.array (shown_list (shown n) xs)

abbrev pub shown_shape : Shape → json.Json
shown_shape s = let b = nested s in shown b.0 b.1

module _ (vs : json.Items) where
  -- a value read as x is placed as the value shown for x
  abbrev Places : {A : Type 0} → (Data → Option A) → (A → json.Json) → Type 0
  Places {A} reads shows = (j : json.Json) (d : Data) (x : A) → of_json j ≡ Some d → reads d ≡ Some x
      → placed vs j ≡ shows x

  module _ {A : Type 0} (reads : Data → Option A) (shows : A → json.Json) (each : Places reads shows) where
    items_placed : (js : json.Items) (ds : Items) (xs : List A) → of_items js ≡ Some ds → read_items reads ds ≡ Some xs
        → placed_items vs js ≡ shown_list shows xs
    items_placed json.no_items ds xs is h = grind arith
    items_placed (json.item j js) ds xs is h = grind (arith, each j, items_placed js)

    list_placed : Places (list_of reads) (λ xs. json.array (shown_list shows xs))
    list_placed (json.array js) d xs is h = search (arith, mapped, items_placed)
    list_placed j d xs is h = grind arith

  module _ (ps : List Point) (show : Show vs ps) where
    point_placed : Places (point_at ps) shown_point
    point_placed (json.array js) d p is h = not_found p (ap (point_at ps) (mapped array (of_items js) d is).2 ∙ h)
    point_placed j d p is h = grind arith

    pub nested_placed : (n : ℕ) → Places (nested_of ps n) (shown n)
    nested_placed zero = point_placed
    nested_placed (suc n) = list_placed (nested_of ps n) (shown n) (nested_placed n)

-- ---- the first to pass a test

pub pick : {A : Type 0} (P : A → Type 0) (b : Bool) (x y : A) (rest : Option A) → (b ≡ true → P x)
    → (rest ≡ Some y → P y) → cond b (Some x) rest ≡ Some y → P y
pick P b x y rest here later h = grind arith

-- the shape of nested points has the name of the type, and is bounded by them
abbrev pub IsOfShape : GeometryType → Type 0
IsOfShape t = (x : Nested t.depth) → (shape_name (t.shape x) ≡ t.name) × (shown t.depth x ≡ shown_shape (t.shape x))

type_found : (kind : List ℕ) (types : List GeometryType) → AllByRecursion IsOfShape types → (t : GeometryType)
    → find (λ u. bytes_eq kind u.name) types ≡ Some t → (bytes_eq kind t.name ≡ true) × IsOfShape t
type_found kind [] all t h = not_found t h
type_found kind (u ∷ us) all t h =
    pick (λ t. (bytes_eq kind t.name ≡ true) × IsOfShape t) (bytes_eq kind u.name) u t _ (λ e. (e, all.0))
    (type_found kind us all.1 t) h

-- it has the name, and its shape
pub type_is : (kind : List ℕ) (t : GeometryType) → geometry_type kind ≡ Some t
    → (bytes_eq kind t.name ≡ true) × IsOfShape t
type_is kind = type_found kind geometry_types ((λ x. (refl, refl)), grind arith)

-- ---- written boundaries

module _ (pool : List Point) (small : length pool < 2 ^ 63) where
  point_back : (p : Point) → of_json (outline (point_data pool p)) ≡ Some (point_data pool p)
  point_back p = search (arith, prefix_len-le-length, number_of-decimal)

  items_back : {A : Type 0} (f : A → Data) → ((x : A) → of_json (outline (f x)) ≡ Some (f x)) → (xs : List A)
      → of_items (items_outline (items_of (map f xs))) ≡ Some (items_of (map f xs))
  items_back f each [] = refl
  items_back f each (x ∷ xs) = rw (each x, items_back f each xs) refl

  nested_back : (n : ℕ) (x : Nested n) → of_json (outline (nested_data pool n x)) ≡ Some (nested_data pool n x)
  nested_back zero p = point_back p
  nested_back (suc n) xs = ap (option_map array) (items_back (nested_data pool n) (nested_back n) xs)

  pub shape_written : (vs : json.Items) → Show vs pool → (shape : Shape) → are_in pool (shape_points shape) ≡ true
      → placed vs (outline (boundaries_data pool shape)) ≡ shown_shape shape
  shape_written vs show shape h =
      let b = nested shape in
      nested_placed vs pool show b.0 _ (nested_data pool b.0 b.1) b.1 (nested_back b.0 b.1)
      (nested_read pool small b.0 b.1 h)

  pub boundaries_plain : (shape : Shape) → are_in pool (shape_points shape) ≡ true
      → IsPlain (boundaries_data pool shape)
  boundaries_plain shape h = let b = nested shape in
      nested_plain pool b.0 (nested_data pool b.0 b.1) b.1 (nested_read pool small b.0 b.1 h)

-- ---- properties of all points

pub all_at : {A : Type 0} (P : A → Type 0) (xs : List A) (n : ℕ) (x : A) → All P xs → slice_get xs n ≡ Some x → P x
all_at P xs n x h e = search (arith, get_or_from_slice_get, slice_get_within)

pub all_repeats : (P : Point → Type 0) (ps : List Point) → All P ps → All P (without_repeats ps)
all_repeats P [] h = h
all_repeats P (q ∷ ps) h =
    All-cons P q _ (All-head P q ps h) (All-filter _ P (without_repeats ps) (all_repeats P ps (All-tail P q ps h)))

pub all_flat : {A B : Type 0} (P : B → Type 0) (f : A → List B) (xs : List A) → All (λ x. All P (f x)) xs
    → All P (flat_map f xs)
all_flat P f [] h = All-nil P
all_flat P f (x ∷ xs) h =
    All-append P (f x) (flat_map f xs) (All-head (λ x. All P (f x)) x xs h)
    (all_flat P f xs (All-tail (λ x. All P (f x)) x xs h))

-- ---- points without repeats

abbrev AreOnce : List Point → Type 0
AreOnce [] = Unit {0}
AreOnce (p ∷ ps) = All (λ q. same_point p q ≡ false) ps × AreOnce ps

once_left : (test : Point → Bool) (ps : List Point) → AreOnce ps → AreOnce (filter test ps)
once_left test [] h = tt
once_left test (p ∷ ps) h = grind (arith, All-filter test (λ q. same_point p q ≡ false) ps h.0, once_left test ps h.1)

each_once : (ps : List Point) → AreOnce (without_repeats ps)
each_once [] = tt
each_once (p ∷ ps) =
    let rest = without_repeats ps in
    let apart : (q : Point) → not (same_point p q) ≡ true → same_point p q ≡ false = λ q e. grind arith in
    (All-weaker _ _ apart _ (filter_passes (λ q. not (same_point p q)) rest), once_left _ rest (each_once ps))

-- the first point isn't there again
first_alone : (q : Point) (ps : List Point) (n : ℕ) (p : Point) → All (λ r. same_point q r ≡ false) ps → q ≡ p
    → slice_get ps n ≡ Some p → ⊥
first_alone q ps n p alone same h = search (arith, true≢false, all_at (λ r. same_point q r ≡ false) ps n p alone h)

once_at : (ps : List Point) → AreOnce ps → (m n : ℕ) (p : Point) → slice_get ps m ≡ Some p → slice_get ps n ≡ Some p
    → m ≡ n
once_at [] h m n p a b = not_found p a
once_at (q ∷ ps) h (suc m) (suc n) p a b = ap suc (once_at ps h.1 m n p a b)
once_at (q ∷ ps) h m n p a b = search (arith, first_alone q ps, h.0)

-- ---- different points are written differently

in_width : (z : ℤ) → is_i64 z ≡ true → mag z < 2 ^ 63
in_width z h = grind arith

whole_is : (y z : ℤ) → is_i64 y ≡ true → is_i64 z ≡ true → number_text (of_integer y) ≡ number_text (of_integer z)
    → y ≡ z
whole_is y z a b e = search (arith, signed_decimal_injective, in_width, text_of_integer)

-- the text of the number at an index
abbrev number_at : ℕ → json.Json → Option (List ℕ)
number_at n j = option_and_then look.as_number (look.at n j)

point_is : (p q : Point) → is_i64_point p ≡ true → is_i64_point q ≡ true → shown_point p ≡ shown_point q → p ≡ q
point_is p q a b e =
    let x : p.x ≡ q.x = whole_is p.x q.x (grind arith) (grind arith) (Some_inj _ _ (ap (number_at 0) e)) in
    let y : p.y ≡ q.y = whole_is p.y q.y (grind arith) (grind arith) (Some_inj _ _ (ap (number_at 1) e)) in
    let z : p.z ≡ q.z = whole_is p.z q.z (grind arith) (grind arith) (Some_inj _ _ (ap (number_at 2) e)) in
    rw (x, y, z) refl

-- ---- written vertices

pub vertex_at : (ps : List Point) (n : ℕ) (v : json.Json)
    → look.get_item n (items_outline (items_of (map vertex_data ps))) ≡ Some v
    → (p : Point) × (slice_get ps n ≡ Some p) × (shown_point p ≡ v)
vertex_at [] n v h = not_found v h
vertex_at (p ∷ ps) n v h = grind (arith, vertex_at ps)

pub vertices_once : (ps : List Point) → list_all is_i64_point (without_repeats ps) ≡ true
    → IsEachOnce (items_outline (items_of (map vertex_data (without_repeats ps))))
vertices_once ps h m n v a b =
    let pool = without_repeats ps in
    let p = vertex_at pool m v a in
    let q = vertex_at pool n v b in
    let in_range = all_at (λ p. is_i64_point p ≡ true) pool in
    let each = AllPass-from_list_all is_i64_point pool h in
    let same = point_is p.0 q.0 (in_range m p.0 each p.1) (in_range n q.0 each q.1) (p.2 ∙ sym q.2) in
    once_at pool (each_once ps) m n p.0 p.1 (q.1 ∙ ap Some (sym same))

-- ---- points in boundaries

-- each item is a part of the value shown for the list
part_list : {A : Type 0} (f : A → json.Json) (xs : List A) (Q : A → Type 0)
    → ((x : A) → ((v : json.Json) → IsPart v (f x) → IsPartOfOne v (shown_list f xs)) → Q x) → All Q xs
part_list f [] Q each = All-nil Q
part_list f (y ∷ xs) Q each =
    All-cons Q y xs (each y (λ v p. inl p)) (part_list f xs Q (λ x into. each x (λ v p. inr (into v p))))

abbrev pub IsIn : json.Json → Point → Type 0
IsIn j p = IsPart (shown_point p) j

nested_part : (n : ℕ) (x : Nested n) → All (IsIn (shown n x)) (nested_points n x)
nested_part zero q = All-cons (IsIn (shown_point q)) q [] (inl refl) (All-nil (IsIn (shown_point q)))
nested_part (suc n) xs =
    let P = IsIn (shown (suc n) xs) in
    all_flat P (nested_points n) xs
    (part_list (shown n) xs (λ x. All P (nested_points n x))
    (λ x into. All-weaker (IsIn (shown n x)) P (λ p part. inr (into (shown_point p) part)) _ (nested_part n x)))

pub shape_part : (shape : Shape) → All (IsIn (shown_shape shape)) (shape_points shape)
shape_part shape = let b = nested shape in nested_part b.0 b.1

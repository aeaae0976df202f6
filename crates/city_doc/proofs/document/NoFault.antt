-- A tree of whole numbers of a lawful city has no fault.
use Rattle.city_doc.proofs.Prelude.{◌≡◌, inl, inr, ℕ, List, Bool, false, true≢false, Some, None, true, Option, Ordering}
use Rattle.city_doc.proofs.Prelude.{◌∷◌, sym, ap, subst, ◌∙◌, arith, is_eq, nat_cmp, cond, is_none, codes}
use Rattle.city_doc.proofs.Prelude.{if◌then◌else◌, is_some, option_map, option_and_then, fun_ext, Data}
use Rattle.city_doc.proofs.Prelude.{Body, Object, Point, Entries, found_in, IsRelated, IsLawful, body_fault}
use Rattle.city_doc.proofs.Prelude.{Members, no_members, member, get_member}
use Rattle.city_doc.proofs.Prelude.{some_shape, has_open_shell, body_of, object_of, entries_of, CityMap, IsMisrelatedAt}
use Rattle.city_doc.proofs.Prelude.{has_bad_list, Has, and_then_some, map_some, match_ordering, slice_cmp}
use Rattle.std.specs.Prelude.{◌||◌}
use Rattle.std.proofs.lemmas.Bool.{or_from}
use Rattle.city_model.specs.declared.command.Cause.TheVariants.{ShortRing, SameTwice, OpenShell}
use Rattle.city_model.specs.Shells.{has_short_ring, has_same_twice}
use Rattle.city_tokens.specs.object.Bodies.{ids_at}
use Rattle.city_doc.proofs.document.Right.{some_of}
use Rattle.city_doc.specs.document.CityFaults as faults

-- the tree of an object
pub record IsReadAs (points : List Point) (d : Data) (o : Object) : Type 0 where
  pub body : body_of points d ≡ Some o.body
  pub parents : ids_at (codes "parents") d ≡ Some o.parents
  pub children : ids_at (codes "children") d ≡ Some o.children

pub read_as : (points : List Point) (d : Data) (o : Object) → object_of points d ≡ Some o → IsReadAs points d o
read_as points d o h = grind arith

found_at : (o : Ordering) (read : Data → Option Object) (first d : Data) (further : Option Data) (here : Object)
    (rest : Option Object) → read first ≡ Some here
    → (further ≡ Some d → (read d ≡ rest) × (is_some rest ≡ true))
    → match_ordering o further (Some first) further ≡ Some d
    → (read d ≡ cond (is_eq o) (Some here) rest) × (is_some (cond (is_eq o) (Some here) rest) ≡ true)
found_at o read first d further here rest is more h = grind arith

found_is : (points : List Point) (ms : Members) (es : Entries) (id : List ℕ) (d : Data) → entries_of points ms ≡ Some es
    → get_member id ms ≡ Some d → (object_of points d ≡ found_in es id) × (is_some (found_in es id) ≡ true)
found_is points no_members es id d read h = grind arith
found_is points (member k x ms) es id d read h =
    let o = and_then_some (λ y. option_map (λ ys. (k, y) ∷ ys) (entries_of points ms)) (object_of points x) es read in
    let r = map_some (λ ys. (k, o.0) ∷ ys) (entries_of points ms) es o.2 in
    rw r.2 (found_at (slice_cmp nat_cmp id k) (object_of points) x d (get_member id ms) o.0 (found_in r.0 id) o.1
    (found_is points ms r.0 id d r.1) h)

pub found : (points : List Point) (ms : Members) (es : Entries) (id : List ℕ) (d : Data)
    → entries_of points ms ≡ Some es → get_member id ms ≡ Some d
    → (o : Object) × (object_of points d ≡ Some o) × (found_in es id ≡ Some o)
found points ms es id d read h =
    let f = found_is points ms es id d read h in
    let o = some_of (found_in es id) f.1 in
    (o.0, f.0 ∙ o.1, o.1)

pub lenient : (points : List Point) (d : Data) (o : Object) → object_of points d ≡ Some o
    → faults.lenient_object_of points d ≡ Some o
lenient points d o h = grind arith

found_here : (o : Ordering) (read : Data → Option Object) (first : Data) (further : Option Data) (here : Object)
    (rest : Option Object) → read first ≡ Some here → rest ≡ option_and_then read further
    → cond (is_eq o) (Some here) rest ≡ option_and_then read (match_ordering o further (Some first) further)
found_here o read first further here rest is more = grind arith

-- the entries are those of the map in which bad lists count as empty
pub found-lenient : (points : List Point) (ms : Members) (es : Entries) → entries_of points ms ≡ Some es → (id : List ℕ)
    → found_in es id ≡ faults.lenient_map_of points ms id
found-lenient points no_members es h id = grind arith
found-lenient points (member k x ms) es h id =
    let o = and_then_some (λ y. option_map (λ ys. (k, y) ∷ ys) (entries_of points ms)) (object_of points x) es h in
    let r = map_some (λ ys. (k, o.0) ∷ ys) (entries_of points ms) es o.2 in
    rw r.2 (found_here (slice_cmp nat_cmp id k) (faults.lenient_object_of points) x (get_member id ms) o.0
    (found_in r.0 id) (lenient points x o.0 o.1) (found-lenient points ms r.0 r.1 id))

-- if all relations agree, nothing is misrelated
none_misrelated : (m : CityMap) → IsRelated m → (id : List ℕ) → IsMisrelatedAt m id → ⊥
none_misrelated m related id h = let r = related id h.0 h.1 in grind arith

all_sound : (short same unclosed : Bool)
    → (if short then Some ShortRing else (if same then Some SameTwice else (if unclosed then Some OpenShell else None)))
    ≡ None → ((short || same) ≡ false) × (unclosed ≡ false)
all_sound short same unclosed h = grind arith

-- of a lawful city's objects
module _ (points : List Point) (ms : Members) (es : Entries) (read : entries_of points ms ≡ Some es)
    (lawful : IsLawful (found_in es)) where
  -- a test that no tree of a readable object passes
  pub no_object : (test : Data → Bool) → ((d : Data) (b : Body) → body_of points d ≡ Some b → test d ≡ false)
      → (id : List ℕ) → Has test ms id → ⊥
  no_object test out id h =
      let o = found points ms es id h.0 read h.1 in
      true≢false (sym h.2 ∙ out h.0 (o.0).body (read_as points h.0 o.0 o.1).body)

  no_body : (test : Body → Bool) → ((b : Body) → body_fault b ≡ None → test b ≡ false) → (id : List ℕ)
      → Has (λ d. faults.body_has test (body_of points d)) ms id → ⊥
  no_body test out id h =
      let o = found points ms es id h.0 read h.1 in
      let has = ap (faults.body_has test) (read_as points h.0 o.0 o.1).body in
      true≢false (sym h.2 ∙ has ∙ out (o.0).body (lawful.0 id o.0 o.2).1)

  pub no_bad_ring : (id : List ℕ) → Has (faults.has_bad_ring points) ms id → ⊥
  no_bad_ring =
      no_body faults.is_bad_ringed
      (λ b h. (all_sound (some_shape has_short_ring b) (some_shape has_same_twice b) (some_shape has_open_shell b) h).0)

  pub no_open_shell : (id : List ℕ) → Has (faults.has_open_shell points) ms id → ⊥
  no_open_shell =
      no_body (some_shape has_open_shell)
      (λ b h. (all_sound (some_shape has_short_ring b) (some_shape has_same_twice b) (some_shape has_open_shell b) h).1)

  no_bad_list : (id : List ℕ) → Has has_bad_list ms id → ⊥
  no_bad_list id h =
      let o = found points ms es id h.0 read h.1 in
      let r = read_as points h.0 o.0 o.1 in
      true≢false (sym h.2 ∙ or_from _ _ (ap is_none r.parents) (ap is_none r.children))

  pub no_badly_related : (id : List ℕ) → faults.IsBadlyRelatedAt points ms id → ⊥
  no_badly_related id (inl list) = no_bad_list id list
  no_badly_related id (inr wrong) =
      none_misrelated (faults.lenient_map_of points ms)
      (subst IsRelated (fun_ext (found-lenient points ms es read))
      (λ id o is. ((lawful.0 id o is).0, lawful.1 id o is))) id wrong

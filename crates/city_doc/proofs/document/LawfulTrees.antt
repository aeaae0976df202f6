-- A tree of whole numbers of a lawful city has no fault, from its top to its objects.
use Rattle.city_doc.proofs.Prelude.{◌≡◌, true≢false, ◌⊎◌, inl, inr, ℕ, List, Bool, true, Option, Some, None, Result}
use Rattle.city_doc.proofs.Prelude.{refl, sym, ap, subst, ◌∙◌, arith, false, option_and_then, is_some, Data, Members}
use Rattle.city_doc.proofs.Prelude.{no_members, member, get, get_member, as_object, Point, kept_at_top}
use Rattle.city_doc.proofs.Prelude.{is_empty_object_or_absent, top_members, IsLawful, is_integral, CityValue, Body}
use Rattle.city_doc.proofs.Prelude.{body_of, Has, ReadFault, NotWhole, NotCityJson, UnknownType, Unsupported}
use Rattle.city_doc.proofs.Prelude.{BadGeometry, BadVertex, BadRing, Relations, OpenShell, kept_if, is_text}
use Rattle.city_doc.proofs.Prelude.{is_city_json, points_in, entries_of, city_of, objects_of, entries_in, IsAdmitted}
use Rattle.city_doc.proofs.Prelude.{objects_in, vertices_in, is_unsupported, StandsIn, members_of, all_objects}
use Rattle.city_doc.proofs.Prelude.{are_all_objects, has_triple, is_transform, are_objects, are_vertices, wrong_member}
use Rattle.city_doc.proofs.Prelude.{frame_of, without_top_members, triple_at, more_of, is_unknown_type, is_bad_geometry}
use Rattle.city_doc.proofs.Prelude.{has_bad_vertex, points_of, get_member-without_each, and_parts, and_from}
use Rattle.city_doc.proofs.Prelude.{and_then_some, if_some, map_some, Frame, or_empty}
use Rattle.std.proofs.Common.{Ok, Err, codes}
use Rattle.std.specs.Prelude.{IfErr, length}
use Rattle.city_doc.specs.declared.fault.ReadFault.TheVariants.{OutOfMemory}
use Rattle.city_doc.specs.document.AllFaults.{StandsAt, IsFaultOfTree}
use Rattle.city_doc.specs.document.Faults.{DocumentFault}
use Rattle.city_doc.specs.object.Faults.{unsupported_name}
use Rattle.city_tokens.proofs.Laws.{at_listed, are_triples-read}
use Rattle.city_doc.proofs.object.FaultlessBodies.{known, supported, formed, placed, is_object}
use Rattle.city_doc.proofs.document.NoFault.{read_as, no_object, no_bad_ring, no_open_shell, no_badly_related}
use Rattle.city_doc.proofs.OneValue.{one_tree}
use Rattle.city_doc.proofs.document.KeptMembers.{kept_passes}
use Rattle.city_doc.proofs.document.Right.{get-object}
use Rattle.city_model.specs.CityMap as city

pub record HasFrameParts (d : Data) (f : Frame) : Type 0 where
  pub transform : Data
  pub there : get (codes "transform") d ≡ Some transform
  pub scale : triple_at (codes "scale") transform ≡ Some f.scale
  pub translate : triple_at (codes "translate") transform ≡ Some f.translate
  pub more : more_of transform ≡ Some f.more
  pub top : Members
  pub is_top : as_object d ≡ Some top
  pub extra : kept_if kept_at_top (without_top_members top) ≡ Some f.extra

pub frame_parts : (d : Data) (f : Frame) → frame_of d ≡ Some f → HasFrameParts d f
frame_parts d f h =
    let transform = and_then_some _ (get (codes "transform") d) f h in
    let scale = and_then_some _ (triple_at (codes "scale") transform.0) f transform.2 in
    let translate = and_then_some _ (triple_at (codes "translate") transform.0) f scale.2 in
    let more = and_then_some _ (more_of transform.0) f translate.2 in
    let top = and_then_some _ (as_object d) f more.2 in
    let extra = map_some _ (kept_if kept_at_top (without_top_members top.0)) f top.2 in
    rw extra.2 (search)

pub record StandsFor (d : Data) (c : CityValue) : Type 0 where
  pub json : is_city_json d ≡ true
  pub points : points_in d ≡ Some (vertices_in d)
  pub objects : option_and_then as_object (get (codes "CityObjects") d) ≡ Some (objects_in d)
  pub list : city.Entries
  pub entries : entries_of (vertices_in d) (objects_in d) ≡ Some list
  pub made : c.1 ≡ objects_of list
  pub frame : frame_of d ≡ Some c.0

pub stands_for : (d : Data) (c : CityValue) → city_of d ≡ Some c → StandsFor d c
stands_for d c h =
    let json = if_some (is_city_json d) _ c h in
    let ps = and_then_some _ (points_in d) c json.1 in
    let es = and_then_some _ (entries_in ps.0 d) c ps.2 in
    let frame = map_some _ (frame_of d) c es.2 in
    let ms = and_then_some (entries_of ps.0) (option_and_then as_object (get (codes "CityObjects") d)) es.0 es.1 in
    let same_points : ps.0 ≡ vertices_in d = sym (ap or_empty ps.1) in
    let same_objects : ms.0 ≡ objects_in d = sym (ap members_of ms.1) in
    record {
      json = json.0;
      points = ps.1 ∙ ap Some same_points;
      objects = ms.1 ∙ ap Some same_objects;
      list = es.0;
      entries = sym (ap (λ x. entries_of x (objects_in d)) same_points)
          ∙ (sym (ap (entries_of ps.0) same_objects) ∙ ms.2);
      made = ap (λ x. x.1) frame.2;
      frame = frame.1 ∙ ap (λ x. Some x.0) (sym frame.2);
    }

all_are_objects : (points : List Point) (ms : Members) (es : city.Entries) → entries_of points ms ≡ Some es
    → all_objects ms ≡ true
all_are_objects points no_members es h = refl
all_are_objects points (member k x ms) es h = grind (arith, read_as, is_object, all_are_objects points ms)

pub vertices_right : (o : Option Data) (ps : List Point) → option_and_then points_of o ≡ Some ps → are_vertices o ≡ true
vertices_right o ps h = grind (arith, are_triples-read)

-- the kept members of the top have no other `extensions` than it has
extensions_right : (top kept : Members) → kept_if kept_at_top (without_top_members top) ≡ Some kept
    → is_empty_object_or_absent (get_member (codes "extensions") top) ≡ true
extensions_right top kept h =
    rw (← get_member-without_each top_members (codes "extensions") top refl)
    (and_parts _ _ (kept_passes kept_at_top (without_top_members top) kept h)).1

right : (d : Data) (c : CityValue) → StandsFor d c → wrong_member d ≡ None
right d c h =
    let json = and_parts (is_text (codes "CityJSON") (get (codes "type") d))
    (is_text (codes "2.0") (get (codes "version") d)) h.json in
    let p = frame_parts d c.0 h.frame in
    let transform : is_transform (get (codes "transform") d) ≡ true = ap is_transform p.there
    ∙ and_from (has_triple (codes "scale") p.transform) (has_triple (codes "translate") p.transform)
    (ap is_some p.scale)
    (ap is_some p.translate) in
    let objects : are_objects (get (codes "CityObjects") d) ≡ true = ap are_all_objects h.objects
    ∙ all_are_objects (vertices_in d) (objects_in d) h.list h.entries in
    let vertices = vertices_right (get (codes "vertices") d) (vertices_in d) h.points in
    let extensions : is_empty_object_or_absent (get (codes "extensions") d) ≡ true =
    rw (get-object (codes "extensions") d p.top p.is_top) (extensions_right p.top c.0.extra p.extra) in
    rw (json.0, json.1, transform, objects, vertices, extensions) refl

module _ (d : Data) (c : CityValue) (s : StandsFor d c) (lawful : IsLawful (city.object_at c.1)) where
  of_list : IsLawful (city.found_in s.list)
  of_list = subst IsLawful (ap city.object_at s.made ∙ at_listed s.list) lawful

  none_with : (test : Data → Bool) → ((e : Data) (b : Body) → body_of (vertices_in d) e ≡ Some b → test e ≡ false)
      → (id : List ℕ) → Has test (objects_in d) id → ⊥
  none_with = no_object (vertices_in d) (objects_in d) s.list s.entries of_list

  none_there : (f : ReadFault) → StandsAt (vertices_in d) (objects_in d) f → ⊥
  none_there (UnknownType id) h = none_with is_unknown_type (known (vertices_in d)) id h
  none_there (Unsupported id name) h =
      let at = and_then_some unsupported_name (get_member id (objects_in d)) name h in
      none_with is_unsupported (supported (vertices_in d)) id (at.0, at.1, ap is_some at.2)
  none_there (BadGeometry id) h = none_with is_bad_geometry (formed (vertices_in d)) id h
  none_there (BadVertex id) h =
      none_with (has_bad_vertex (length (vertices_in d))) (placed (vertices_in d)) id
      (h.0, h.1, (and_parts _ _ h.2).1)
  none_there (BadRing id) h = no_bad_ring (vertices_in d) (objects_in d) s.list s.entries of_list id h
  none_there (Relations id) h = no_badly_related (vertices_in d) (objects_in d) s.list s.entries of_list id h
  none_there (OpenShell id) h = no_open_shell (vertices_in d) (objects_in d) s.list s.entries of_list id h
  none_there f h = h

  pub none_at : is_integral d ≡ true → (f : ReadFault) → IsFaultOfTree d f → ⊥
  none_at integral NotWhole h = true≢false (sym integral ∙ h)
  none_at integral (NotCityJson name) h = let none = right d c s in grind (arith, h.1)
  none_at integral f h = none_there f h.2

  stands_not : (f : ReadFault) → is_integral d ≡ true → StandsIn d f → ⊥
  stands_not NotWhole integral h = true≢false (sym integral ∙ h)
  stands_not (NotCityJson name) integral h = let none = right d c s in grind arith
  stands_not (UnknownType id) integral h = none_there (UnknownType id) h.0
  stands_not (Unsupported id name) integral h = none_there (Unsupported id name) h.1
  stands_not (BadGeometry id) integral h = none_there (BadGeometry id) h.0
  stands_not (BadVertex id) integral h =
      none_with (has_bad_vertex (length (vertices_in d))) (placed (vertices_in d)) id h.0
  stands_not (BadRing id) integral h = none_there (BadRing id) h.0
  stands_not (Relations id) integral h = none_there (Relations id) h.0
  stands_not (OpenShell id) integral h = none_there (OpenShell id) h.0
  stands_not f integral h = h

-- a text refused with a fault other than `OutOfMemory` stands for no lawful city
pub refused : (text : List ℕ) (f : ReadFault) → DocumentFault text f
    → (f ≡ OutOfMemory) ⊎ ((c : CityValue) → IsAdmitted text c → ⊥)
refused text f (inl h) = inl h
refused text f (inr (inl h)) = inr (λ c k. let long = h.1 in let short = k.1.0 in omega arith)
refused text f (inr (inr (inl h))) = inr (λ c k. h.1.1 k.0 k.1.1)
refused text f (inr (inr (inr h))) = inr (λ c k.
    let same : h.0 ≡ k.0 = one_tree text h.0 k.0 h.1.1 k.1.1 in
    stands_not k.0 c (stands_for k.0 c k.3) k.4 f k.2 (subst (λ d. StandsIn d f) same h.2.0))

pub not_refused : (text : List ℕ) (c : CityValue) → IsAdmitted text c → (f : ReadFault) → DocumentFault text f
    → f ≡ OutOfMemory
not_refused text c admitted f h = elim (refused text f h) [ inl memory ↦ memory | inr none ↦ absurd (none c admitted) ]

pub refused_result : {A : Type 0} (text : List ℕ) (r : Result A ReadFault) → IfErr r (λ f. DocumentFault text f)
    → IfErr r (λ f. (f ≡ OutOfMemory) ⊎ ((c : CityValue) → IsAdmitted text c → ⊥))
refused_result text (Ok x) h = tt
refused_result text (Err f) h = refused text f h

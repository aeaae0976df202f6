-- Each search finds the faults of one rank.
use Rattle.city_doc.proofs.Prelude.{◌≡◌, ◌⊎◌, inl, inr, ℕ, ◌<◌, List, [], Bool, true, false, true≢false}
use Rattle.city_doc.proofs.Prelude.{Option, Some, None, refl, fun_ext}
use Rattle.city_doc.proofs.Prelude.{sym, ap, subst, ◌∙◌, arith, option_and_then, option_map, Data, Members}
use Rattle.city_doc.proofs.Prelude.{get_member, Body, Object, Point, CityMap, ReadFault, UnknownType, Unsupported}
use Rattle.city_doc.proofs.Prelude.{BadGeometry, BadVertex, BadRing, Relations, OpenShell, IsMisrelatedAt}
use Rattle.city_doc.proofs.Prelude.{IsBadlyRelatedAt, is_bad_ringed, lenient_map_of, lenient_object_of, body_of}
use Rattle.city_doc.proofs.Prelude.{some_shape, has_open_shell, and_then_some, AreOrdered, read_entries, read_of}
use Rattle.std.specs.Prelude.{◌||◌}
use Rattle.city_model.specs.internal.RelationTests.{is_misrelated}
use Rattle.city_model.proofs.Lawfulness.{misrelated_true, misrelated_false}
use Rattle.city_doc.specs.declared.document.indexed.ReadObject.{ReadObject}
use Rattle.city_doc.specs.document.AllFaults.{StandsAt, AreThose, id_of}
use Rattle.city_doc.specs.document.CityFaults.{body_has}
use Rattle.city_doc.specs.document.Faults.{rank_of}
use Rattle.city_doc.specs.internal.document.Told.{only_where, unknown_type, unsupported, bad_geometry}
use Rattle.city_doc.specs.internal.document.Told.{bad_vertex, bad_ring, relations, open_shell, body_there}
use Rattle.city_doc.specs.internal.document.Told.{misrelated_there, all_told}
use Rattle.city_doc.specs.object.Faults.{unsupported_name}
use Rattle.city_doc.proofs.FaultLists.{those_alike, none_there}
use Rattle.city_doc.proofs.document.ReadObjects.{built_found}
use Rattle.city_doc.proofs.document.Told.{IsFound, Finds, StandsBelow, told_too}

where_some : (b : Bool) (g f : ReadFault) → only_where b g ≡ Some f → (b ≡ true) × (g ≡ f)
where_some b g f h = grind arith

where_true : (b : Bool) (f : ReadFault) → b ≡ true → only_where b f ≡ Some f
where_true b f h = rw h refl

module _ (points : List Point) (ms : Members) (o : AreOrdered ms) where
  -- the object of a fault is there, and passes the test
  abbrev Passes : (List ℕ → ReadObject → Bool) → List ℕ → Type 0
  Passes test id = (d : Data) × (get_member id ms ≡ Some d) × (test id (read_of points d) ≡ true)

  -- a kind of fault stands where an object passes the test
  finds_kind : (n : ℕ) (kind : List ℕ → ReadFault) (test : List ℕ → ReadObject → Bool)
      → ((id : List ℕ) → (rank_of (kind id) ≡ n) × (id_of (kind id) ≡ id))
      → ((id : List ℕ) → Passes test id → StandsAt points ms (kind id))
      → ((f : ReadFault) → StandsAt points ms f → rank_of f ≡ n → (id : List ℕ) × (f ≡ kind id) × Passes test id)
      → Finds points ms o n (λ id r. only_where (test id r) (kind id))
  finds_kind n kind test shape stands from = record {
    shape = λ id r f is.
        let w = where_some (test id r) (kind id) f is in
        subst (λ f. (rank_of f ≡ n) × (id_of f ≡ id)) w.1 (shape id);
    stands = λ f h.
        let w = where_some (test h.0 (read_of points h.1)) (kind h.0) f h.3 in
        subst (StandsAt points ms) w.1 (stands h.0 (h.1, h.2, w.0));
    found = λ f h e.
        let k = from f h e in
        let p = k.2 in
        (k.0, p.0, p.1, where_true _ _ p.2 ∙ ap Some (sym k.1));
  }

  -- ---- of trees

  at_unknown_type : (f : ReadFault) → StandsAt points ms f → rank_of f ≡ 5
      → (id : List ℕ) × (f ≡ UnknownType id) × Passes (λ id r. r.has_unknown_type) id
  at_unknown_type (UnknownType id) h e = (id, refl, h)
  at_unknown_type f h e = absurd (omega (arith, e))

  at_bad_geometry : (f : ReadFault) → StandsAt points ms f → rank_of f ≡ 7
      → (id : List ℕ) × (f ≡ BadGeometry id) × Passes (λ id r. r.has_bad_geometry) id
  at_bad_geometry (BadGeometry id) h e = (id, refl, h)
  at_bad_geometry f h e = absurd (omega (arith, e))

  at_bad_vertex : (f : ReadFault) → StandsAt points ms f → rank_of f ≡ 8
      → (id : List ℕ) × (f ≡ BadVertex id) × Passes (λ id r. r.is_misplaced) id
  at_bad_vertex (BadVertex id) h e = (id, refl, h)
  at_bad_vertex f h e = absurd (omega (arith, e))

  name_found : (id : List ℕ) (o : Option (List ℕ)) (f : ReadFault) → option_map (λ name. Unsupported id name) o ≡ Some f
      → (name : List ℕ) × (o ≡ Some name) × (Unsupported id name ≡ f)
  name_found id None f h = absurd (cc)
  name_found id (Some name) f h = (name, refl, cc)

  found_unsupported : (f : ReadFault) → StandsAt points ms f → rank_of f ≡ 6 → IsFound points unsupported ms f
  found_unsupported (Unsupported id name) h e =
      let d = and_then_some unsupported_name (get_member id ms) name h in
      (id, d.0, d.1, ap (option_map (λ name. Unsupported id name)) d.2)
  found_unsupported f h e = absurd (omega (arith, e))

  finds_unsupported : Finds points ms o 6 unsupported
  finds_unsupported = record {
    shape = λ id r f h.
        let n = name_found id r.unsupported f h in
        subst (λ f. (rank_of f ≡ 6) × (id_of f ≡ id)) n.2 (refl, refl);
    stands = λ f h.
        let n = name_found h.0 (unsupported_name h.1) f h.3 in
        subst (StandsAt points ms) n.2 (ap (option_and_then unsupported_name) h.2 ∙ n.1);
    found = found_unsupported;
  }

  -- ---- of objects, if they can be built

  same_body : (test : Body → Bool) (d : Data)
      → body_there test (lenient_object_of points d) ≡ body_has test (body_of points d)
  same_body test d = grind arith

  at_bad_ring : (f : ReadFault) → StandsAt points ms f → rank_of f ≡ 9
      → (id : List ℕ) × (f ≡ BadRing id) × Passes (λ id r. body_there is_bad_ringed r.object) id
  at_bad_ring (BadRing id) h e = (id, refl, (h.0, h.1, same_body is_bad_ringed h.0 ∙ h.2))
  at_bad_ring f h e = absurd (omega (arith, e))

  at_open_shell : (f : ReadFault) → StandsAt points ms f → rank_of f ≡ 11
      → (id : List ℕ) × (f ≡ OpenShell id) × Passes (λ id r. body_there (some_shape has_open_shell) r.object) id
  at_open_shell (OpenShell id) h e = (id, refl, (h.0, h.1, same_body (some_shape has_open_shell) h.0 ∙ h.2))
  at_open_shell f h e = absurd (omega (arith, e))

  -- ---- relations

  abbrev built : CityMap
  built = lenient_map_of points ms

  built_at : (id : List ℕ) (d : Data) → get_member id ms ≡ Some d → built id ≡ lenient_object_of points d
  built_at id d there = ap (option_and_then (lenient_object_of points)) there

  either : (a b : Bool) → (a || b) ≡ true → (a ≡ true) ⊎ (b ≡ true)
  either a b h = grind arith

  first_true : (a b : Bool) → a ≡ true → (a || b) ≡ true
  first_true a b h = grind arith

  last_true : (a b : Bool) → b ≡ true → (a || b) ≡ true
  last_true a b h = grind arith

  misrelated_at : (m : CityMap) (id : List ℕ) (w : Option Object) → m id ≡ w → misrelated_there m id w ≡ true
      → IsMisrelatedAt m id
  misrelated_at m id None is h = absurd (true≢false (sym h))
  misrelated_at m id (Some o) is h = (o, is, misrelated_true m id o h)

  at_misrelated : (m : CityMap) (id : List ℕ) → IsMisrelatedAt m id → misrelated_there m id (m id) ≡ true
  at_misrelated m id h = ap (misrelated_there m id) h.1 ∙ by (is_misrelated m id h.0) refl
    where
      by : (b : Bool) → is_misrelated m id h.0 ≡ b → is_misrelated m id h.0 ≡ true
      by true is = is
      by false is = let not = misrelated_false m id h.0 is in grind (arith, h.2)

  abbrev is_badly_related : List ℕ → ReadObject → Bool
  is_badly_related id r = r.has_bad_list || misrelated_there built id r.object

  badly_related : (id : List ℕ) → Passes is_badly_related id → IsBadlyRelatedAt points ms id
  badly_related id h = elim (either _ (misrelated_there built id (lenient_object_of points h.0)) h.2) [
    | inl list ↦ inl (h.0, h.1, list)
    | inr wrong ↦ inr (misrelated_at built id (lenient_object_of points h.0) (built_at id h.0 h.1) wrong)
  ]

  at_relations : (f : ReadFault) → StandsAt points ms f → rank_of f ≡ 10
      → (id : List ℕ) × (f ≡ Relations id) × Passes is_badly_related id
  at_relations (Relations id) (inl h) e = (id, refl, (h.0, h.1, first_true _ _ h.2))
  at_relations (Relations id) (inr h) e =
      let d = and_then_some (lenient_object_of points) (get_member id ms) h.0 h.1 in (
        id,
        refl,
        (
          d.0,
          d.1,
          last_true _ _ (sym (ap (misrelated_there built id) (built_at id d.0 d.1)) ∙ at_misrelated built id h),
        ),
      )
  at_relations f h e = absurd (omega (arith, e))

  -- ---- all of them

  none_low : (f : ReadFault) → StandsAt points ms f × (rank_of f < 5) → ⊥
  none_low (UnknownType id) s = omega (arith, s.1)
  none_low (Unsupported id name) s = omega (arith, s.1)
  none_low (BadGeometry id) s = omega (arith, s.1)
  none_low (BadVertex id) s = omega (arith, s.1)
  none_low (BadRing id) s = omega (arith, s.1)
  none_low (Relations id) s = omega (arith, s.1)
  none_low (OpenShell id) s = omega (arith, s.1)
  none_low f s = s.0

  rank_below : (f : ReadFault) → rank_of f < 12
  rank_below (OpenShell id) = omega arith
  rank_below f = omega arith

  pub told_all : AreThose (StandsAt points ms) (all_told (read_entries points ms))
  told_all = rw (fun_ext (built_found points ms)) (
      let a = told_too points ms o 5 unknown_type []
      (finds_kind 5 (λ id. UnknownType id) (λ id r. r.has_unknown_type) (λ id. (refl, refl)) (λ id h. h)
      at_unknown_type)
      (none_there (StandsBelow points ms o 5) none_low) in
      let b = told_too points ms o 6 unsupported _ finds_unsupported a in
      let c = told_too points ms o 7 bad_geometry _
      (finds_kind 7 (λ id. BadGeometry id) (λ id r. r.has_bad_geometry) (λ id. (refl, refl)) (λ id h. h)
      at_bad_geometry) b in
      let d = told_too points ms o 8 bad_vertex _
      (finds_kind 8 (λ id. BadVertex id) (λ id r. r.is_misplaced) (λ id. (refl, refl)) (λ id h. h) at_bad_vertex) c in
      let e = told_too points ms o 9 bad_ring _
      (finds_kind 9 (λ id. BadRing id) (λ id r. body_there is_bad_ringed r.object) (λ id. (refl, refl))
      (λ id h. (h.0, h.1, sym (same_body is_bad_ringed h.0) ∙ h.2)) at_bad_ring) d in
      let f = told_too points ms o 10 (relations built) _
      (finds_kind 10 (λ id. Relations id) is_badly_related (λ id. (refl, refl)) badly_related at_relations) e in
      let g = told_too points ms o 11 open_shell _
      (finds_kind 11 (λ id. OpenShell id) (λ id r. body_there (some_shape has_open_shell) r.object)
      (λ id. (refl, refl)) (λ id h. (h.0, h.1, sym (same_body (some_shape has_open_shell) h.0) ∙ h.2))
      at_open_shell) f in
      those_alike (StandsBelow points ms o 12) (StandsAt points ms) _ (λ f s. s.0) (λ f s. (s, rank_below f)) g)

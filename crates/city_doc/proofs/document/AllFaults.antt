-- The list of all faults of a text, the first fault, and the accepted texts.
use Rattle.city_doc.proofs.Prelude.{◌≡◌, inl, inr, ℕ, ◌<◌, ◌≤◌, List, ◌∷◌, Bool, true, false, true≢false, Option}
use Rattle.city_doc.proofs.Prelude.{Some, None, [], Less, nat_cmp, refl, sym, ap, subst, ◌∙◌, arith, length, slice_cmp}
use Rattle.city_doc.proofs.Prelude.{nat_list_cmp_total, option_and_then, is_some, slice_get, Data, Members}
use Rattle.city_doc.proofs.Prelude.{get_member, Point, is_integral, CityValue, IsAdmitted, ReadFault, NotWhole}
use Rattle.city_doc.proofs.Prelude.{NotCityJson, UnknownType, Unsupported, BadGeometry, BadVertex, BadRing, Relations}
use Rattle.city_doc.proofs.Prelude.{OpenShell, StandsAmong, StandsIn, IsFirst, objects_in, vertices_in}
use Rattle.city_doc.proofs.Prelude.{wrong_member, is_bad_geometry, has_bad_vertex, Has}
use Rattle.city_doc.proofs.Prelude.{and_parts, and_then_some, city_of, IsLawful, object_at}
use Rattle.std.specs.Prelude.{IfSome}
use Rattle.city_tokens.specs.tree.Texts.{IsTooLong, IsNoJson, HasTree, HasOtherNumber}
use Rattle.city_doc.specs.declared.fault.ReadFault.TheVariants.{OutOfMemory, TooLong, NotJson}
use Rattle.city_doc.specs.document.Accepted.{IsAccepted}
use Rattle.city_doc.specs.FaultLists.{IsListed}
use Rattle.city_doc.specs.document.AllFaults.{StandsAt, IsFaultOfTree, IsFaultOf, IsBefore}
use Rattle.city_doc.specs.document.AllFaults.{AreThose, AreFaultsOf, id_of}
use Rattle.city_doc.specs.document.Faults.{DocumentFault, rank_of}
use Rattle.city_doc.specs.object.Faults.{unsupported_name}
use Rattle.std.proofs.lemmas.Cmp.{tied_itself}
use Rattle.city_doc.proofs.document.LawfulTrees.{stands_for, none_at}
use Rattle.city_doc.proofs.document.Right.{some_of}
use Rattle.city_doc.proofs.FaultLists.{those_alike, one_alone, none_there, before_rest, those_of_text}
use Rattle.city_doc.proofs.FaultLists.{long_alone, unread_alone}

-- ---- from the objects to the text

at_in_tree : (d : Data) → is_integral d ≡ true → wrong_member d ≡ None → (f : ReadFault)
    → StandsAt (vertices_in d) (objects_in d) f → IsFaultOfTree d f
at_in_tree d integral right NotWhole h = absurd h
at_in_tree d integral right (NotCityJson name) h = absurd h
at_in_tree d integral right f h = (integral, right, h)

tree_at : (d : Data) → is_integral d ≡ true → wrong_member d ≡ None → (f : ReadFault) → IsFaultOfTree d f
    → StandsAt (vertices_in d) (objects_in d) f
tree_at d integral right NotWhole h = absurd (true≢false (sym integral ∙ h))
tree_at d integral right (NotCityJson name) h = absurd (grind (arith, right, h.1))
tree_at d integral right f h = h.2

those_of_tree : (d : Data) (fs : List ReadFault) → is_integral d ≡ true → wrong_member d ≡ None
    → AreThose (StandsAt (vertices_in d) (objects_in d)) fs → AreThose (IsFaultOfTree d) fs
those_of_tree d fs integral right h = those_alike _ _ fs (at_in_tree d integral right) (tree_at d integral right) h

pub those_read : (d : Data) (points : List Point) (ms : Members) (fs : List ReadFault) → is_integral d ≡ true
    → wrong_member d ≡ None → vertices_in d ≡ points → objects_in d ≡ ms → AreThose (StandsAt points ms) fs
    → AreThose (IsFaultOfTree d) fs
those_read d points ms fs integral right same_points same_objects h =
    those_of_tree d fs integral right (rw (← same_points, ← same_objects) at h)

only_wrong : (d : Data) (name : List ℕ) → is_integral d ≡ true → wrong_member d ≡ Some name → (f : ReadFault)
    → IsFaultOfTree d f → f ≡ NotCityJson name
only_wrong d name integral wrong NotWhole h = absurd (true≢false (sym integral ∙ h))
only_wrong d name integral wrong (NotCityJson other) h =
    let same : other ≡ name = grind (arith, wrong, h.1) in ap NotCityJson same
only_wrong d name integral wrong f h = absurd (grind (arith, wrong, h.1))

pub wrong_alone : (d : Data) (name shown : List ℕ) (fs : List ReadFault) → is_integral d ≡ true
    → wrong_member d ≡ Some name → shown ≡ name → fs ≡ NotCityJson shown ∷ [] → AreThose (IsFaultOfTree d) fs
wrong_alone d name shown fs integral wrong same is = rw (is, same)
    (one_alone (IsFaultOfTree d) (NotCityJson name) (integral, wrong) (only_wrong d name integral wrong))

pub of_text : (text : List ℕ) (d : Data) (fs : List ReadFault) → HasTree text d → AreThose (IsFaultOfTree d) fs
    → AreFaultsOf text fs
of_text text d fs tree h = those_of_text TooLong NotJson IsFaultOfTree text d fs tree h

pub too_long_alone : (text : List ℕ) → IsTooLong text → AreFaultsOf text (TooLong ∷ [])
too_long_alone text long =
    one_alone (IsFaultOf text) TooLong (inl (refl, long)) (long_alone TooLong NotJson IsFaultOfTree text long)

pub no_json_alone : (text : List ℕ) → IsNoJson text → AreFaultsOf text (NotJson ∷ [])
no_json_alone text none = one_alone (IsFaultOf text) NotJson (inr (inl (refl, none)))
    (unread_alone TooLong NotJson IsFaultOfTree text none)

only_fraction : (d : Data) → is_integral d ≡ false → (f : ReadFault) → IsFaultOfTree d f → f ≡ NotWhole
only_fraction d other NotWhole h = refl
only_fraction d other (NotCityJson name) h = absurd (true≢false (sym h.0 ∙ other))
only_fraction d other f h = absurd (true≢false (sym h.0 ∙ other))

pub not_whole_alone : (text : List ℕ) → HasOtherNumber text → AreFaultsOf text (NotWhole ∷ [])
not_whole_alone text h =
    of_text text h.0 _ h.1 (one_alone (IsFaultOfTree h.0) NotWhole h.2 (only_fraction h.0 h.2))

-- a tree of a lawful city has none
pub none_of_city : (d : Data) (c : CityValue) → is_integral d ≡ true → city_of d ≡ Some c → IsLawful (object_at c.1)
    → AreThose (IsFaultOfTree d) []
none_of_city d c integral is lawful =
    none_there (IsFaultOfTree d) (λ f k. none_at d c (stands_for d c is) lawful integral f k)

none_of_lawful : (text : List ℕ) (c : CityValue) → IsAdmitted text c → AreFaultsOf text []
none_of_lawful text c h = of_text text h.0 [] h.1 (none_of_city h.0 c h.2 h.3 h.4)

pub none_of_some : (text : List ℕ) (o : Option CityValue) → IfSome o (λ c. IsAdmitted text c) → is_some o ≡ true
    → AreFaultsOf text []
none_of_some text None h some = absurd (true≢false (sym some))
none_of_some text (Some c) h some = none_of_lawful text c h

-- ---- the first of them

in_among : (d : Data) (f : ReadFault) → is_integral d ≡ true → wrong_member d ≡ None → StandsIn d f
    → StandsAmong (vertices_in d) (objects_in d) f
in_among d NotWhole integral right h = absurd (true≢false (sym integral ∙ h))
in_among d (NotCityJson name) integral right h = grind arith
in_among d f integral right h = h

-- a fault of the objects at the least id is told, or one of a lower rank is
told_by : (points : List Point) (ms : Members) (f : ReadFault) → StandsAmong points ms f
    → (g : ReadFault) × (rank_of g ≤ rank_of f) × StandsAt points ms g
told_by points ms (UnknownType id) h = (UnknownType id, search (arith), h.0)
told_by points ms (Unsupported id name) h = (Unsupported id name, search (arith), h.1)
told_by points ms (BadGeometry id) h = (BadGeometry id, search (arith), h.0)
told_by points ms (BadVertex id) h = by (is_bad_geometry (h.0).0) refl
  where
    by : (b : Bool) → is_bad_geometry (h.0).0 ≡ b
        → (g : ReadFault) × (rank_of g ≤ 8) × StandsAt points ms g
    by true is = (BadGeometry id, search (arith), ((h.0).0, (h.0).1, is))
    by false is = (BadVertex id, search (arith), ((h.0).0, (h.0).1, rw (is, (h.0).2) refl))
told_by points ms (BadRing id) h = (BadRing id, search (arith), h.0)
told_by points ms (Relations id) h = (Relations id, search (arith), h.0)
told_by points ms (OpenShell id) h = (OpenShell id, search (arith), h.0)
told_by points ms f h = absurd h

not_before_itself : (f : ReadFault) → IsBefore f f → ⊥
not_before_itself f (inl lt) = omega (arith, lt)
not_before_itself f (inr same) = let e = tied_itself nat_list_cmp_total (id_of f) in grind (arith, same.1)

not_both : (f g : ReadFault) → IsBefore f g → IsBefore g f → ⊥
not_both f g (inl lt) (inl gt) = omega (arith, lt, gt)
not_both f g (inl lt) (inr same) = omega (arith, lt, same.0)
not_both f g (inr same) (inl gt) = omega (arith, same.0, gt)
not_both f g (inr less) (inr more) =
    let e = nat_list_cmp_total.antisymm (id_of f) (id_of g) in
    grind (arith, less.1, more.1)

least_told : (P : ReadFault → Type 0) (f : ReadFault) (fs : List ReadFault) → AreThose P (f ∷ fs) → (g : ReadFault)
    → P g → IsBefore g f → ⊥
least_told P f fs h g k before = elim (h.all g k) [
  | inl same ↦ not_before_itself f (subst (λ g. IsBefore g f) same before)
  | inr later ↦ not_both f g (before_rest IsBefore f g fs h.in_order later) before
]

module _ (d : Data) (f : ReadFault) (least : (g : ReadFault) → IsFaultOfTree d g → IsBefore g f → ⊥) where
  none_lower : (4 < rank_of f → (is_integral d ≡ true) × (wrong_member d ≡ None)) → (g : ReadFault)
      → rank_of g < rank_of f → StandsIn d g → ⊥
  none_lower parts OutOfMemory lt h = absurd h
  none_lower parts TooLong lt h = absurd h
  none_lower parts NotJson lt h = absurd h
  none_lower parts NotWhole lt h = least NotWhole h (inl lt)
  none_lower parts (NotCityJson name) lt h = by (is_integral d) refl
    where
      by : (b : Bool) → is_integral d ≡ b → ⊥
      by true is = least (NotCityJson name) (is, h) (inl lt)
      by false is = least NotWhole is (inl (omega (arith, lt)))
  none_lower parts g lt h =
      let t = told_by (vertices_in d) (objects_in d) g h in
      let p = parts (omega (arith, lt)) in
      least t.0 (at_in_tree d p.0 p.1 t.0 t.2) (inl (omega (arith, t.1, lt)))

high_parts : (d : Data) (f : ReadFault) → IsFaultOfTree d f → 4 < rank_of f
    → (is_integral d ≡ true) × (wrong_member d ≡ None)
high_parts d NotWhole h lt = absurd (omega (arith, lt))
high_parts d (NotCityJson name) h lt = absurd (omega (arith, lt))
high_parts d f h lt = (h.0, h.1)

-- the first fault told is the first that stands, at the least id
is_first : (d : Data) (f : ReadFault) → IsFaultOfTree d f → ((g : ReadFault) → IsFaultOfTree d g → IsBefore g f → ⊥)
    → IsFirst (StandsIn d) f
is_first d NotWhole h least = (h, none_lower d NotWhole least (high_parts d NotWhole h))
is_first d (NotCityJson name) h least =
    (h.1, none_lower d (NotCityJson name) least (high_parts d (NotCityJson name) h))
is_first d (UnknownType id) h least = (
  (h.2, λ q lt k. least (UnknownType q) (h.0, h.1, k) (inr (refl, lt))),
  none_lower d (UnknownType id) least (high_parts d (UnknownType id) h),
)
is_first d (Unsupported id name) h least =
    let at = and_then_some unsupported_name (get_member id (objects_in d)) name h.2 in (
      (
        (
          (at.0, at.1, ap is_some at.2),
          λ q lt k.
              let other = some_of (unsupported_name k.0) k.2 in
              least (Unsupported q other.0) (h.0, h.1, ap (option_and_then unsupported_name) k.1 ∙ other.1)
              (inr (refl, lt)),
        ),
        h.2,
      ),
      none_lower d (Unsupported id name) least (high_parts d (Unsupported id name) h),
    )
is_first d (BadGeometry id) h least = (
  (h.2, λ q lt k. least (BadGeometry q) (h.0, h.1, k) (inr (refl, lt))),
  none_lower d (BadGeometry id) least (high_parts d (BadGeometry id) h),
)
is_first d (BadVertex id) h least = (
  (((h.2).0, (h.2).1, (and_parts _ _ (h.2).2).1), λ q lt k. by q lt k (is_bad_geometry k.0) refl),
  none_lower d (BadVertex id) least (high_parts d (BadVertex id) h),
)
  where
    by : (q : List ℕ) → slice_cmp nat_cmp q id ≡ Less
        → (k : Has (has_bad_vertex (length (vertices_in d))) (objects_in d) q) → (b : Bool) → is_bad_geometry k.0 ≡ b
        → ⊥
    by q lt k true is = least (BadGeometry q) (h.0, h.1, (k.0, k.1, is)) (inl (search (arith)))
    by q lt k false is = least (BadVertex q) (h.0, h.1, (k.0, k.1, rw (is, k.2) refl)) (inr (refl, lt))
is_first d (BadRing id) h least = (
  (h.2, λ q lt k. least (BadRing q) (h.0, h.1, k) (inr (refl, lt))),
  none_lower d (BadRing id) least (high_parts d (BadRing id) h),
)
is_first d (Relations id) h least = (
  (h.2, λ q lt k. least (Relations q) (h.0, h.1, k) (inr (refl, lt))),
  none_lower d (Relations id) least (high_parts d (Relations id) h),
)
is_first d (OpenShell id) h least = (
  (h.2, λ q lt k. least (OpenShell q) (h.0, h.1, k) (inr (refl, lt))),
  none_lower d (OpenShell id) least (high_parts d (OpenShell id) h),
)
is_first d f h least = absurd h.2

-- the first of all faults of a text is the reader's answer
pub first_of_all : (text : List ℕ) (f : ReadFault) (fs : List ReadFault) → AreFaultsOf text (f ∷ fs)
    → DocumentFault text f
first_of_all text f fs h = by (h.stand f (inl refl))
  where
    by : IsFaultOf text f → DocumentFault text f
    by (inl k) = inr (inl k)
    by (inr (inl k)) = inr (inr (inl k))
    by (inr (inr k)) = inr (inr (inr (
      k.0,
      k.1,
      is_first k.0 f k.2
          (λ g m before. least_told (IsFaultOf text) f fs h g (inr (inr (k.0, k.1, m))) before),
    )))

pub first_of_list : (text : List ℕ) (fs : List ReadFault) → AreFaultsOf text fs → (f : ReadFault)
    → slice_get fs 0 ≡ Some f → DocumentFault text f
first_of_list text [] h f is = absurd (cc)
first_of_list text (g ∷ fs) h f is =
    let same : g ≡ f = cc in subst (DocumentFault text) same (first_of_all text g fs h)

-- ---- the accepted texts

-- if a fault stands in a tree, one is told
some_told : (text : List ℕ) (d : Data) (f : ReadFault) → HasTree text d → StandsIn d f
    → (g : ReadFault) × IsFaultOf text g
some_told text d f tree h = by (is_integral d) (wrong_member d) refl refl
  where
    by : (b : Bool) (o : Option (List ℕ)) → is_integral d ≡ b → wrong_member d ≡ o → (g : ReadFault) × IsFaultOf text g
    by false o is wrong = (NotWhole, inr (inr (d, tree, is)))
    by true (Some name) is wrong = (NotCityJson name, inr (inr (d, tree, (is, wrong))))
    by true None is right =
        let t = told_by (vertices_in d) (objects_in d) f (in_among d f is right h) in
        (t.0, inr (inr (d, tree, at_in_tree d is right t.0 t.2)))

-- a text without faults is accepted
pub accepted_of_none : (text : List ℕ) (fs : List ReadFault) → AreFaultsOf text fs → fs ≡ [] → IsAccepted text
accepted_of_none text fs h none f k = by f k
  where
    nothing : (g : ReadFault) → IsFaultOf text g → ⊥
    nothing g m = subst (λ fs. IsListed fs g) none (h.all g m)

    by : (f : ReadFault) → DocumentFault text f → f ≡ OutOfMemory
    by f (inl memory) = memory
    by f (inr (inl k)) = absurd (nothing f (inl k))
    by f (inr (inr (inl k))) = absurd (nothing f (inr (inl k)))
    by f (inr (inr (inr k))) = let t = some_told text k.0 f k.1 k.2.0 in absurd (nothing t.0 t.1)

pub no_memory : (text : List ℕ) → IsFaultOf text OutOfMemory → ⊥
no_memory text (inl k) = absurd (let not = k.0 in grind arith)
no_memory text (inr (inl k)) = absurd (let not = k.0 in grind arith)
no_memory text (inr (inr k)) = absurd k.2.2

-- an accepted text has none
pub none_of_accepted : (text : List ℕ) (fs : List ReadFault) → AreFaultsOf text fs → IsAccepted text → fs ≡ []
none_of_accepted text [] h accepted = refl
none_of_accepted text (f ∷ fs) h accepted =
    let same = accepted f (first_of_all text f fs h) in
    absurd (no_memory text (subst (IsFaultOf text) same (h.stand f (inl refl))))

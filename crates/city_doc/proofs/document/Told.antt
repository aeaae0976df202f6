-- Faults told by a walk through the objects in their order: the faults found at each, once, in order.
use Rattle.city_doc.proofs.Prelude.{◌≡◌, ◌⊎◌, inl, inr, ℕ, suc, ◌<◌, List, ◌++◌, Option, Some, None, Ordering}
use Rattle.std.specs.declared.cmp.Ordering.TheVariants.{Greater}
use Rattle.city_doc.proofs.Prelude.{Less, Equal, nat_cmp, is_eq, refl, sym, ap, subst, ◌∙◌, arith, slice_cmp}
use Rattle.city_doc.proofs.Prelude.{same_id_true, Data, Members, no_members, member}
use Rattle.city_doc.proofs.Prelude.{get_member, AreOrdered, AllAbove, Point, ReadFault, read_entries, read_of}
use Rattle.city_doc.specs.declared.document.indexed.ReadObject.{ReadObject}
use Rattle.city_doc.specs.FaultLists.{IsListed, AreOrderedBy}
use Rattle.city_doc.specs.document.AllFaults.{StandsAt, IsBefore, AreThose, id_of}
use Rattle.city_doc.specs.document.Faults.{rank_of}
use Rattle.city_doc.specs.internal.document.Told.{told, with_found}
use Rattle.city_doc.proofs.FaultLists.{all_listed, those_alike, those_or}
use Rattle.city_doc.proofs.document.Searches.{here, there, found_above}

-- ---- the faults found at the objects

module _ (points : List Point) (find : List ℕ → ReadObject → Option ReadFault) where
  abbrev find_at : List ℕ → Data → Option ReadFault
  find_at id d = find id (read_of points d)

  abbrev told_at : Members → List ReadFault
  told_at ms = told find (read_entries points ms)

  -- it is found at an object
  abbrev pub IsFound : Members → ReadFault → Type 0
  IsFound ms f = (id : List ℕ) × (d : Data) × (get_member id ms ≡ Some d) × (find id (read_of points d) ≡ Some f)

  further : (k : List ℕ) (d : Data) (ms : Members) (f : ReadFault) → AllAbove k ms → IsFound ms f
      → IsFound (member k d ms) f
  further k d ms f above h = (h.0, h.1, there k h.0 d h.1 ms above h.2, h.3)

  listed_found : (ms : Members) (f : ReadFault) → AreOrdered ms → IsListed (told_at ms) f → IsFound ms f
  listed_found no_members f o h = absurd h
  listed_found (member k d ms) f o h =
      by (find_at k d) (λ j. further k d ms f o.0 (listed_found ms f o.1 j)) refl h
    where
      by : (r : Option ReadFault) → (IsListed (told_at ms) f → IsFound (member k d ms) f) → find_at k d ≡ r
          → IsListed (with_found r (told_at ms)) f → IsFound (member k d ms) f
      by None rest is h = rest h
      by (Some g) rest is (inl same) = (k, d, here k d ms, is ∙ ap Some (sym same))
      by (Some g) rest is (inr h) = rest h

  in_rest : (r : Option ReadFault) (fs : List ReadFault) (f : ReadFault) → IsListed fs f → IsListed (with_found r fs) f
  in_rest None fs f h = h
  in_rest (Some g) fs f h = inr h

  in_front : (r : Option ReadFault) (fs : List ReadFault) (f : ReadFault) → r ≡ Some f → IsListed (with_found r fs) f
  in_front r fs f is = subst (λ r. IsListed (with_found r fs) f) (sym is) (inl refl)

  found_listed : (ms : Members) (id : List ℕ) (d : Data) (f : ReadFault) → get_member id ms ≡ Some d
      → find_at id d ≡ Some f → IsListed (told_at ms) f
  found_listed no_members id d f at is = absurd (cc)
  found_listed (member k x ms) id d f at is = by (slice_cmp nat_cmp id k)
      (λ j. in_rest (find_at k x) (told_at ms) f (found_listed ms id d f j is)) refl
    where
      by : (o : Ordering) → (get_member id ms ≡ Some d → IsListed (told_at (member k x ms)) f)
          → slice_cmp nat_cmp id k ≡ o → IsListed (told_at (member k x ms)) f
      by Equal rest e =
          let same : id ≡ k = same_id_true id k (ap is_eq e) in
          let value : d ≡ x = grind (arith, e, at) in
          in_front (find_at k x) (told_at ms) f (rw (← same, ← value) is)
      by Less rest e = rest (grind (arith, e, at))
      by Greater rest e = rest (grind (arith, e, at))

  told_in_order : (n : ℕ) (ms : Members) → AreOrdered ms
      → ((id : List ℕ) (r : ReadObject) (f : ReadFault) → find id r ≡ Some f → (rank_of f ≡ n) × (id_of f ≡ id))
      → AreOrderedBy IsBefore (told_at ms)
  told_in_order n no_members o shape = tt
  told_in_order n (member k d ms) o shape = by (find_at k d) (told_in_order n ms o.1 shape) refl
    where
      above : (g : ReadFault) → find_at k d ≡ Some g → (f : ReadFault) → IsListed (told_at ms) f → IsBefore g f
      above g is f h =
          let at = listed_found ms f o.1 h in
          let one = shape k (read_of points d) g is in
          let other = shape at.0 (read_of points at.1) f at.3 in
          inr (one.0 ∙ sym other.0, rw (one.1, other.1) (found_above k at.0 ms at.1 o.0 at.2))

      by : (r : Option ReadFault) → AreOrderedBy IsBefore (told_at ms) → find_at k d ≡ r
          → AreOrderedBy IsBefore (with_found r (told_at ms))
      by None rest is = rest
      by (Some g) rest is = (all_listed (IsBefore g) (told_at ms) (above g is), rest)

  pub those_told : (n : ℕ) (ms : Members) → AreOrdered ms
      → ((id : List ℕ) (r : ReadObject) (f : ReadFault) → find id r ≡ Some f → (rank_of f ≡ n) × (id_of f ≡ id))
      → AreThose (IsFound ms) (told_at ms)
  those_told n ms o shape = record {
    stand = λ f h. listed_found ms f o h;
    all = λ f h. found_listed ms h.0 h.1 f h.2 h.3;
    in_order = told_in_order n ms o shape;
  }

lower_or_same : (k n : ℕ) → k < suc n → (k < n) ⊎ (k ≡ n)
lower_or_same k n h = grind arith

-- faults of lower ranks, and then the ones told of one rank
module _ (points : List Point) (ms : Members) (o : AreOrdered ms) where
  abbrev pub StandsBelow : ℕ → ReadFault → Type 0
  StandsBelow n f = StandsAt points ms f × (rank_of f < n)

  -- a search finds the faults of a rank
  pub record Finds (n : ℕ) (find : List ℕ → ReadObject → Option ReadFault) : Type 0 where
    pub shape : (id : List ℕ) (r : ReadObject) (f : ReadFault) → find id r ≡ Some f → (rank_of f ≡ n) × (id_of f ≡ id)
    pub stands : (f : ReadFault) → IsFound points find ms f → StandsAt points ms f
    pub found : (f : ReadFault) → StandsAt points ms f → rank_of f ≡ n → IsFound points find ms f

  pub told_too : (n : ℕ) (find : List ℕ → ReadObject → Option ReadFault) (fs : List ReadFault) → Finds n find
      → AreThose (StandsBelow n) fs → AreThose (StandsBelow (suc n)) (fs ++ told find (read_entries points ms))
  told_too n find fs finds h =
      those_alike (λ f. StandsBelow n f ⊎ IsFound points find ms f) (StandsBelow (suc n)) _ to from
      (those_or (StandsBelow n) (IsFound points find ms) fs (told find (read_entries points ms))
      (λ f g s at. inl (omega (arith, s.1, rank g at))) h (those_told points find n ms o finds.shape))
    where
      rank : (f : ReadFault) → IsFound points find ms f → rank_of f ≡ n
      rank f at = (finds.shape at.0 (read_of points at.1) f at.3).0

      to : (f : ReadFault) → StandsBelow n f ⊎ IsFound points find ms f → StandsBelow (suc n) f
      to f (inl s) = (s.0, omega (arith, s.1))
      to f (inr at) = (finds.stands f at, omega (arith, rank f at))

      from : (f : ReadFault) → StandsBelow (suc n) f → StandsBelow n f ⊎ IsFound points find ms f
      from f s = elim (lower_or_same (rank_of f) n s.1) [
        | inl low ↦ inl (s.0, low)
        | inr same ↦ inr (finds.found f s.0 same)
      ]

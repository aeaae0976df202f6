-- There is one first fault: the reader's answer is the first of all faults of a text, unless memory runs out.
use Rattle.city_doc.proofs.Prelude.{◌≡◌, ◌⊎◌, inl, inr, ℕ, ◌<◌, List, ◌∷◌, Some, [], Ordering, Less, Equal}
use Rattle.std.specs.declared.cmp.Ordering.TheVariants.{Greater}
use Rattle.city_doc.proofs.Prelude.{nat_cmp, is_eq, refl, sym, ap, ap₂, subst, ◌∙◌, arith, slice_cmp, slice_get}
use Rattle.city_doc.proofs.Prelude.{nat_list_cmp_total, same_id_true, IsLeast, Data, Members, ReadFault, NotWhole}
use Rattle.city_doc.proofs.Prelude.{NotCityJson, UnknownType, Unsupported, BadGeometry, BadVertex, BadRing, Relations}
use Rattle.city_doc.proofs.Prelude.{OpenShell, StandsIn, IsFirst, objects_in}
use Rattle.city_doc.specs.declared.fault.ReadFault.TheVariants.{OutOfMemory, TooLong, NotJson}
use Rattle.city_doc.specs.document.AllFaults.{IsFaultOf, AreFaultsOf}
use Rattle.city_doc.specs.document.Faults.{DocumentFault, rank_of, unsupported_at}
use Rattle.city_doc.proofs.OneValue.{one_tree}
use Rattle.city_doc.proofs.document.AllFaults.{first_of_all, accepted_of_none, no_memory}

same_least : (P : List ℕ → Type 0) (a b : List ℕ) → IsLeast P a → IsLeast P b → a ≡ b
same_least P a b h k = by (slice_cmp nat_cmp a b) refl
  where
    by : (o : Ordering) → slice_cmp nat_cmp a b ≡ o → a ≡ b
    by Less e = absurd (k.1 a e h.0)
    by Equal e = same_id_true a b (ap is_eq e)
    by Greater e = absurd (h.1 b (let back = nat_list_cmp_total.antisymm a b in grind (arith, e)) k.0)

same_name : (objects : Members) (a b x y : List ℕ) → a ≡ b → unsupported_at objects a ≡ Some x
    → unsupported_at objects b ≡ Some y → Unsupported a x ≡ Unsupported b y
same_name objects a b x y same h k =
    let names : x ≡ y = grind (arith, h, k, same) in ap₂ Unsupported same names

same_ranked : (d : Data) (f g : ReadFault) → StandsIn d f → StandsIn d g → rank_of f ≡ rank_of g → f ≡ g
same_ranked d OutOfMemory g h k e = absurd h
same_ranked d TooLong g h k e = absurd h
same_ranked d NotJson g h k e = absurd h
same_ranked d NotWhole NotWhole h k e = refl
same_ranked d (NotCityJson a) (NotCityJson b) h k e =
    let same : a ≡ b = grind (arith, h, k) in ap NotCityJson same
same_ranked d (UnknownType a) (UnknownType b) h k e = ap UnknownType (same_least _ a b h k)
same_ranked d (Unsupported a x) (Unsupported b y) h k e =
    same_name (objects_in d) a b x y (same_least _ a b h.0 k.0) h.1 k.1
same_ranked d (BadGeometry a) (BadGeometry b) h k e = ap BadGeometry (same_least _ a b h k)
same_ranked d (BadVertex a) (BadVertex b) h k e = ap BadVertex (same_least _ a b h k)
same_ranked d (BadRing a) (BadRing b) h k e = ap BadRing (same_least _ a b h k)
same_ranked d (Relations a) (Relations b) h k e = ap Relations (same_least _ a b h k)
same_ranked d (OpenShell a) (OpenShell b) h k e = ap OpenShell (same_least _ a b h k)
same_ranked d f g h k e = absurd (omega (arith, e))

ranks : (j k : ℕ) → (j < k → ⊥) → (k < j → ⊥) → j ≡ k
ranks j k h l = grind (arith, h, l)

same_first : (d : Data) (f g : ReadFault) → IsFirst (StandsIn d) f → IsFirst (StandsIn d) g → f ≡ g
same_first d f g h k =
    same_ranked d f g h.0 k.0 (ranks (rank_of f) (rank_of g) (λ lt. k.1 f lt h.0) (λ lt. h.1 g lt k.0))

-- two answers to one text are the same, unless memory ran out
same_answer : (text : List ℕ) (f g : ReadFault) → DocumentFault text f → DocumentFault text g
    → (f ≡ OutOfMemory) ⊎ ((g ≡ OutOfMemory) ⊎ (f ≡ g))
same_answer text f g (inl h) k = inl h
same_answer text f g h (inl k) = inr (inl k)
same_answer text f g (inr (inl h)) (inr (inl k)) = inr (inr (h.0 ∙ sym k.0))
same_answer text f g (inr (inl h)) (inr (inr (inl k))) =
    absurd (let long = h.1 in let short = k.1.0 in omega arith)
same_answer text f g (inr (inl h)) (inr (inr (inr k))) =
    absurd (let long = h.1 in let short = k.1.0 in omega arith)
same_answer text f g (inr (inr (inl h))) (inr (inl k)) =
    absurd (let long = k.1 in let short = h.1.0 in omega arith)
same_answer text f g (inr (inr (inl h))) (inr (inr (inl k))) = inr (inr (h.0 ∙ sym k.0))
same_answer text f g (inr (inr (inl h))) (inr (inr (inr k))) = absurd (h.1.1 k.0 k.1.1)
same_answer text f g (inr (inr (inr h))) (inr (inl k)) =
    absurd (let long = k.1 in let short = h.1.0 in omega arith)
same_answer text f g (inr (inr (inr h))) (inr (inr (inl k))) = absurd (k.1.1 h.0 h.1.1)
same_answer text f g (inr (inr (inr h))) (inr (inr (inr k))) =
    let same : h.0 ≡ k.0 = one_tree text h.0 k.0 h.1.1 k.1.1 in
    inr (inr (same_first k.0 f g (subst (λ d. IsFirst (StandsIn d) f) same h.2) k.2))

-- the reader's answer is the first of all faults
pub answered_first : (text : List ℕ) (fs : List ReadFault) → AreFaultsOf text fs → (f : ReadFault)
    → DocumentFault text f → (f ≡ OutOfMemory) ⊎ (slice_get fs 0 ≡ Some f)
answered_first text [] h f k = inl (accepted_of_none text [] h refl f k)
answered_first text (g ∷ fs) h f k = elim (same_answer text f g k (first_of_all text g fs h)) [
  | inl memory ↦ inl memory
  | inr (inl memory) ↦ absurd (no_memory text (subst (IsFaultOf text) memory (h.stand g (inl refl))))
  | inr (inr same) ↦ inr (ap Some (sym same))
]

-- A map from ids, made of a list, has the pairs of the list as if they were put in one after another.
use Rattle.city_model.proofs.Prelude.{arith, ◌≡◌, ℕ, List, [], ◌∷◌, Option, Some, None, Ordering, cond, refl, sym, ap}
use Rattle.city_model.proofs.Prelude.{◌∙◌, T, IsStrictlySortedBy, keys_of, eq_by_cmp_equiv, slice_cmp, find, is_sorted}
use Rattle.city_model.proofs.Prelude.{eq_by_cmp, nat_list_cmp_total, IsDistinct-from_sorted, exact_bytes}
use Rattle.std.proofs.Common.{BTreeMap, nat_cmp}
use Rattle.std.specs.Prelude.{IfOk}
use Rattle.std.specs.Bool.{⊤}
use Rattle.std.specs.declared.result.Result.{Result}
use Rattle.std.specs.declared.result.Result.TheVariants.{Ok}
use Rattle.std.specs.Iterator.{DrainsIf}
use Rattle.std.specs.Map.{update_all}
use Rattle.std.specs.BTreeMap.{IsFromIterResult}
use Rattle.std.specs.FinMap.{put}
use Rattle.std.specs.FinMap.Entries.{is_sorted-put, find-put, same_entries}
use Rattle.std.proofs.lemmas.Iterator.{YieldsList}
use Rattle.std.proofs.lemmas.Iterator.Adapters.{fact_from_collect}
use Rattle.std.proofs.lemmas.Map.Made.{update_all_none}
use Rattle.city_members.proofs.Ids.{same_id_back}
use Rattle.city_model.proofs.Objects.{in_order, find_is_lookup}

abbrev cmp : List ℕ → List ℕ → Ordering
cmp = slice_cmp nat_cmp

module _ {X : Type 0} where
  -- the entries, with these put in one after another
  abbrev pub put_each : List (List ℕ × X) → List (List ℕ × X) → List (List ℕ × X)
  put_each [] es = es
  put_each (x ∷ xs) es = put_each xs (put cmp x.0 x.1 es)

  sorted_each : (xs es : List (List ℕ × X)) → T (is_sorted cmp es) → T (is_sorted cmp (put_each xs es))
  sorted_each [] es h = h
  sorted_each (x ∷ xs) es h =
      sorted_each xs (put cmp x.0 x.1 es) (is_sorted-put cmp nat_list_cmp_total x.0 x.1 es h)

  found_each : (xs es : List (List ℕ × X)) (q : List ℕ)
      → find cmp q (put_each xs es) ≡ update_all (eq_by_cmp cmp) (λ p. find cmp p es) xs q
  found_each [] es q = refl
  found_each (x ∷ xs) es q =
      found_each xs (put cmp x.0 x.1 es) q
      ∙ ap (λ f. update_all (eq_by_cmp cmp) f xs q) (λ i p. (find-put cmp nat_list_cmp_total p x.0 x.1 es
      ∙ ap (λ b. cond b (Some x.1) (find cmp p es)) (same_id_back p x.0)) i)

  -- the entries of the map are the sorted ones with the same find as the list
  entries_made : (xs es : List (List ℕ × X)) (m : BTreeMap (List ℕ) X) → IsFromIterResult cmp xs m
      → T (is_sorted cmp es) → ((q : List ℕ) → find cmp q es ≡ update_all (eq_by_cmp cmp) (λ p. None) xs q)
      → m.entries ≡ es
  entries_made xs es m made sorted found =
      same_entries cmp nat_list_cmp_total exact_bytes m.entries es (in_order cmp m.entries made.1) sorted
      (λ q. find_is_lookup cmp q m.entries ∙ made.0 q ∙ sym (found q))

  pub made : (xs : List (List ℕ × X)) (m : BTreeMap (List ℕ) X) → IsFromIterResult cmp xs m → m.entries ≡ put_each xs []
  made xs m h = entries_made xs (put_each xs []) m h (sorted_each xs [] tt) (found_each xs [])

  made_of_sorted : (es : List (List ℕ × X)) (m : BTreeMap (List ℕ) X) → IsStrictlySortedBy cmp (keys_of es)
      → IsFromIterResult cmp es m → m.entries ≡ es
  made_of_sorted es m ascend h =
      let kept = update_all_none (eq_by_cmp_equiv nat_list_cmp_total) (eq_by_cmp cmp) (λ x y. refl) es in
      entries_made es es m h (in_order cmp es ascend)
      (λ q. grind (arith, find_is_lookup cmp q es, kept q (IsDistinct-from_sorted cmp (keys_of es) ascend)))

-- the map collected from sorted entries
pub collected : {S X E : Type 0} {steps : S → Option (List ℕ × X) → S → Type 0} {s : S} (es : List (List ℕ × X))
    (m : BTreeMap (List ℕ) X) (r : Result (BTreeMap (List ℕ) X) E) → r ≡ Ok m
    → IfOk r (λ v. (xs : List (List ℕ × X)) × DrainsIf steps ⊤ s xs × IsFromIterResult cmp xs v)
    → YieldsList steps (λ x. x) s es → IsStrictlySortedBy cmp (keys_of es) → m.entries ≡ es
collected es m r is ran all ascend =
    made_of_sorted es m ascend (grind (arith, fact_from_collect (IsFromIterResult cmp) r ran all))

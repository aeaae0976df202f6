-- The first of all faults is the reader's answer; and the accepted texts.
use Rattle.city_scripts.proofs.Prelude.{◌≡◌, ◌⊎◌, inl, inr, ℕ, ◌<◌, List, ◌∷◌, Bool, true, false, true≢false, Option}
use Rattle.city_scripts.proofs.Prelude.{Some, None, [], refl, sym, ap, subst, ◌∙◌, arith, slice_get, Data, is_integral}
use Rattle.city_scripts.proofs.Prelude.{all_read, is_bad_command, names_bad_vertex, ScriptParts, parts_of, and_parts}
use Rattle.std.proofs.lemmas.Bool.{false_from_ne_true}
use Rattle.city_scripts.specs.declared.fault.ScriptFault.{ScriptFault}
use Rattle.city_scripts.specs.declared.fault.ScriptFault.TheVariants.{OutOfMemory, TooLong, NotJson, NotWhole}
use Rattle.city_scripts.specs.declared.fault.ScriptFault.TheVariants.{NotScripts, BadScript, TooMany, BadCommand}
use Rattle.city_scripts.specs.declared.fault.ScriptFault.TheVariants.{BadVertex}
use Rattle.city_doc.specs.FaultLists.{IsListed}
use Rattle.city_scripts.specs.AllFaults.{HasAt, StandsAt, IsFaultOfTree, IsFaultOf, IsBefore, AreFaultsOf}
use Rattle.city_scripts.specs.AllFaults.{IsAccepted}
use Rattle.city_scripts.specs.AllFaults.{is_misplaced, rank_of, script_in, command_in}
use Rattle.city_scripts.specs.AllFaults as all
use Rattle.city_scripts.specs.Faults.{ItemsFault, TreeFault, ScriptTextFault, IsBadScript}
use Rattle.city_scripts.specs.Faults as places
use Rattle.city_tokens.specs.script.Scripts.{are_too_many}
use Rattle.city_tokens.specs.tree.Texts.{HasTree}
use Rattle.city_tokens.proofs.Laws.{all_read-some}
use Rattle.city_doc.proofs.FaultLists.{before_rest, tree_alone, long_alone, unread_alone}
use Rattle.city_scripts.proofs.AllFaults.{in_tree, at_items, only_other, only_fraction}
use Rattle.city_scripts.proofs.ItemParts.{in_parts, in_items, none_bad, too_many_alike}

-- ---- the order

same_rank : (f g : ScriptFault) → rank_of f ≡ rank_of g → IsBefore g f
    → places.IsBefore (script_in g) (command_in g) (script_in f) (command_in f)
same_rank f g same (inl lt) = absurd (omega (arith, same, lt))
same_rank f g same (inr h) = h.1

not_higher : (f g : ScriptFault) → rank_of f < rank_of g → IsBefore g f → ⊥
not_higher f g lt (inl gt) = omega (arith, lt, gt)
not_higher f g lt (inr same) = omega (arith, lt, same.0)

not_both_places : (k j n i : ℕ) → places.IsBefore k j n i → places.IsBefore n i k j → ⊥
not_both_places k j n i (inl lt) (inl gt) = omega (arith, lt, gt)
not_both_places k j n i (inl lt) (inr same) = omega (arith, lt, same.0)
not_both_places k j n i (inr same) (inl gt) = omega (arith, gt, same.0)
not_both_places k j n i (inr less) (inr more) = omega (arith, less.1, more.1)

not_both : (f g : ScriptFault) → IsBefore f g → IsBefore g f → ⊥
not_both f g (inl lt) after = not_higher f g lt after
not_both f g (inr same) after =
    not_both_places (script_in f) (command_in f) (script_in g) (command_in g) same.1 (same_rank f g same.0 after)

-- it is one of these, and none of them is before it
pub record IsLeastOf (P : ScriptFault → Type 0) (f : ScriptFault) : Type 0 where
  pub stands : P f
  pub least : (g : ScriptFault) → P g → IsBefore g f → ⊥

sole : (P : ScriptFault → Type 0) (f g : ScriptFault) → g ≡ f → P f → ((h : ScriptFault) → P h → h ≡ f) → IsLeastOf P g
sole P f g same h only = subst (IsLeastOf P) (sym same) (record {
  stands = h;
  least = λ k there before. let e = subst (λ k. IsBefore k f) (only k there) before in not_both f f e e;
})

-- ---- of the items

abbrev refused : ℕ → Data → Bool
refused count d = is_bad_command d

module _ (ds : List Data) where
  -- none of these faults comes before f
  least_of : (f : ScriptFault) → ((n : ℕ) → IsBadScript ds n → IsBefore (BadScript n) f → ⊥)
      → (all.are_too_many ds ≡ true → IsBefore TooMany f → ⊥)
      → ((n i : ℕ) → HasAt refused ds n i → IsBefore (BadCommand n i) f → ⊥)
      → ((n i : ℕ) → HasAt is_misplaced ds n i → IsBefore (BadVertex n i) f → ⊥) → (g : ScriptFault)
      → StandsAt ds g → IsBefore g f → ⊥
  least_of f scripts many commands vertices (BadScript n) h before = scripts n h before
  least_of f scripts many commands vertices TooMany h before = many h before
  least_of f scripts many commands vertices (BadCommand n i) h before = commands n i h before
  least_of f scripts many commands vertices (BadVertex n i) h before = vertices n i h before
  least_of f scripts many commands vertices g h before = absurd h

  all_scripts : (f : ScriptFault) → IsLeastOf (StandsAt ds) f → 5 < rank_of f
      → (ps : List ScriptParts) × (all_read parts_of ds ≡ Some ps)
  all_scripts f h low = all_read-some parts_of ds (λ n d at. by n d at (parts_of d) refl)
    where
      by : (n : ℕ) (d : Data) → slice_get ds n ≡ Some d → (o : Option ScriptParts) → parts_of d ≡ o
          → (p : ScriptParts) × (parts_of d ≡ Some p)
      by n d at None is = absurd (h.least (BadScript n) (d, at, is) (inl low))
      by n d at (Some p) is = (p, is)

  few : (f : ScriptFault) (ps : List ScriptParts) → IsLeastOf (StandsAt ds) f → 6 < rank_of f
      → all_read parts_of ds ≡ Some ps → are_too_many ps ≡ false
  few f ps h low read = false_from_ne_true (are_too_many ps)
      (λ many. h.least TooMany (too_many_alike ds ps read ∙ many) (inl low))

  none_misplaced : (n i : ℕ) → IsLeastOf (StandsAt ds) (BadVertex n i) → (k j : ℕ) → places.IsBefore k j n i
      → HasAt names_bad_vertex ds k j → ⊥
  none_misplaced n i h k j before (s, p, d, at, is, there, has) = by (is_bad_command d) refl
    where
      by : (b : Bool) → is_bad_command d ≡ b → ⊥
      by true bad = h.least (BadCommand k j) (s, p, d, at, is, there, bad) (inl (search (arith)))
      by false good = h.least (BadVertex k j) (s, p, d, at, is, there, rw (good, has) refl) (inr (refl, before))

  -- the least is the reader's first
  first_item : (f : ScriptFault) → IsLeastOf (StandsAt ds) f → ItemsFault ds f
  first_item (BadScript n) h =
      inl (n, refl, (h.stands, λ k lt bad. h.least (BadScript k) bad (inr (refl, inl lt))))
  first_item TooMany h =
      let ps = all_scripts TooMany h (search (arith)) in
      inr (ps.0, ps.1, inl (refl, sym (too_many_alike ds ps.0 ps.1) ∙ h.stands))
  first_item (BadCommand n i) h =
      let ps = all_scripts (BadCommand n i) h (search (arith)) in
      inr (
        ps.0,
        ps.1,
        inr (inl (
          n,
          i,
          refl,
          few (BadCommand n i) ps.0 h (search (arith)) ps.1,
          (
            in_parts refused ds ps.0 ps.1 n i h.stands,
            λ k j before has. h.least (BadCommand k j) (in_items refused ds ps.0 ps.1 k j has) (inr (refl, before)),
          ),
        )),
      )
  first_item (BadVertex n i) h =
      let ps = all_scripts (BadVertex n i) h (search (arith)) in
      let (s, p, d, at, is, there, has) = h.stands in
      inr (
        ps.0,
        ps.1,
        inr (inr (
          n,
          i,
          refl,
          few (BadVertex n i) ps.0 h (search (arith)) ps.1,
          λ k j bad. h.least (BadCommand k j) (in_items refused ds ps.0 ps.1 k j bad) (inl (search (arith))),
          (
            in_parts names_bad_vertex ds ps.0 ps.1 n i (s, p, d, at, is, there, (and_parts _ _ has).1),
            λ k j before bad. none_misplaced n i h k j before (in_items names_bad_vertex ds ps.0 ps.1 k j bad),
          ),
        )),
      )
  first_item f h = absurd h.stands

  -- the reader's first is the least
  least_item : (f : ScriptFault) → ItemsFault ds f → IsLeastOf (StandsAt ds) f
  least_item f (inl (n, is, first)) = subst (IsLeastOf (StandsAt ds)) (sym is) (record {
    stands = first.0;
    least = least_of (BadScript n)
        (λ k bad before. elim (same_rank (BadScript n) (BadScript k) refl before) [
          | inl lt ↦ first.1 k lt bad
          | inr same ↦ omega (arith, same.1)
        ])
        (λ many before. not_higher (BadScript n) TooMany (search (arith)) before)
        (λ k j bad before. not_higher (BadScript n) (BadCommand k j) (search (arith)) before)
        (λ k j bad before. not_higher (BadScript n) (BadVertex k j) (search (arith)) before);
  })
  least_item f (inr (ps, read, inl (is, many))) = subst (IsLeastOf (StandsAt ds)) (sym is) (record {
    stands = too_many_alike ds ps read ∙ many;
    least = least_of TooMany (λ k bad before. none_bad ds ps k read bad)
        (λ more before. not_both TooMany TooMany before before)
        (λ k j bad before. not_higher TooMany (BadCommand k j) (search (arith)) before)
        (λ k j bad before. not_higher TooMany (BadVertex k j) (search (arith)) before);
  })
  least_item f (inr (ps, read, inr (inl (n, i, is, within, first)))) =
      subst (IsLeastOf (StandsAt ds)) (sym is) (record {
        stands = in_items refused ds ps read n i first.0;
        least = least_of (BadCommand n i) (λ k bad before. none_bad ds ps k read bad)
            (λ many before. true≢false (sym many ∙ too_many_alike ds ps read ∙ within))
            (λ k j bad before. first.1 k j (same_rank (BadCommand n i) (BadCommand k j) refl before)
            (in_parts refused ds ps read k j bad))
            (λ k j bad before. not_higher (BadCommand n i) (BadVertex k j) (search (arith)) before);
      })
  least_item f (inr (ps, read, inr (inr (n, i, is, within, good, first)))) =
      subst (IsLeastOf (StandsAt ds)) (sym is) (record {
        stands = misplaced (in_items names_bad_vertex ds ps read n i first.0);
        least = least_of (BadVertex n i) (λ k bad before. none_bad ds ps k read bad)
            (λ many before. true≢false (sym many ∙ too_many_alike ds ps read ∙ within))
            (λ k j bad before. good k j (in_parts refused ds ps read k j bad))
            (λ k j bad before. first.1 k j (same_rank (BadVertex n i) (BadVertex k j) refl before)
            (in_parts names_bad_vertex ds ps read k j (bad_place k j bad)));
      })
    where
      misplaced : HasAt names_bad_vertex ds n i → HasAt is_misplaced ds n i
      misplaced (s, p, d, at, parts, there, has) =
          let fine = false_from_ne_true (is_bad_command d)
          (λ bad. good n i (in_parts refused ds ps read n i (s, p, d, at, parts, there, bad))) in
          (s, p, d, at, parts, there, rw (fine, has) refl)

      bad_place : (k j : ℕ) → HasAt is_misplaced ds k j → HasAt names_bad_vertex ds k j
      bad_place k j (s, p, d, at, parts, there, has) = (s, p, d, at, parts, there, (and_parts _ _ has).1)

-- ---- of the tree and of the text

first_in_tree : (d : Data) (f : ScriptFault) → is_integral d ≡ true → IsLeastOf (IsFaultOfTree d) f → TreeFault d f
first_in_tree d NotWhole integral h = absurd (true≢false (sym integral ∙ h.stands))
first_in_tree d NotScripts integral h = inl (refl, (h.stands).1)
first_in_tree d f integral h =
    let (ds, is, there) = (h.stands).1 in
    inr (
      ds,
      is,
      first_item ds f (record {
        stands = there;
        least = λ g k before. h.least g (in_tree d ds integral is g k) before;
      }),
    )

least_in_tree : (d : Data) (f : ScriptFault) → is_integral d ≡ true → TreeFault d f → IsLeastOf (IsFaultOfTree d) f
least_in_tree d f integral (inl (is, none)) =
    sole (IsFaultOfTree d) NotScripts f is (integral, none) (only_other d integral none)
least_in_tree d f integral (inr (ds, is, fault)) =
    let r = least_item ds f fault in
    record {
      stands = in_tree d ds integral is f r.stands;
      least = λ g k before. r.least g (at_items d ds integral is g k) before;
    }

-- the reader may answer the least of all faults of a text
first_of_all : (text : List ℕ) (f : ScriptFault) → IsLeastOf (IsFaultOf text) f → ScriptTextFault text f
first_of_all text f h = by h.stands
  where
    in_text : (d : Data) → HasTree text d → IsFaultOfTree d f → (b : Bool) → is_integral d ≡ b → ScriptTextFault text f
    in_text d tree k true integral = inr (inr (inr (inr (
      d,
      tree,
      integral,
      first_in_tree d f integral (record {
        stands = k;
        least = λ g m before. h.least g (inr (inr (d, tree, m))) before;
      }),
    ))))
    in_text d tree k false other = inr (inr (inr (inl (only_fraction d other f k, (d, tree, other)))))

    by : IsFaultOf text f → ScriptTextFault text f
    by (inl k) = inr (inl k)
    by (inr (inl k)) = inr (inr (inl k))
    by (inr (inr (d, tree, k))) = in_text d tree k (is_integral d) refl

-- the reader's answer is the least of all faults, unless memory ran out
answer_least : (text : List ℕ) (f : ScriptFault) → ScriptTextFault text f
    → (f ≡ OutOfMemory) ⊎ IsLeastOf (IsFaultOf text) f
answer_least text f (inl memory) = inl memory
answer_least text f (inr (inl (is, long))) = inr (sole (IsFaultOf text) TooLong f is (inl (refl, long))
    (long_alone TooLong NotJson IsFaultOfTree text long))
answer_least text f (inr (inr (inl (is, none)))) = inr (sole (IsFaultOf text) NotJson f is (inr (inl (refl, none)))
    (unread_alone TooLong NotJson IsFaultOfTree text none))
answer_least text f (inr (inr (inr (inl (is, (d, tree, other)))))) =
    inr (sole (IsFaultOf text) NotWhole f is (inr (inr (d, tree, other)))
    (λ g k. only_fraction d other g (tree_alone TooLong NotJson IsFaultOfTree text d tree g k)))
answer_least text f (inr (inr (inr (inr (d, tree, integral, fault))))) =
    let r = least_in_tree d f integral fault in
    inr (record {
      stands = inr (inr (d, tree, r.stands));
      least = λ g k before. r.least g (tree_alone TooLong NotJson IsFaultOfTree text d tree g k) before;
    })

-- ---- of the list

least_told : (text : List ℕ) (f : ScriptFault) (fs : List ScriptFault) → AreFaultsOf text (f ∷ fs)
    → IsLeastOf (IsFaultOf text) f
least_told text f fs h = record {
  stands = h.stand f (inl refl);
  least = λ g k before. elim (h.all g k) [
    | inl same ↦ let e = subst (λ g. IsBefore g f) same before in not_both f f e e
    | inr later ↦ not_both f g (before_rest IsBefore f g fs h.in_order later) before
  ];
}

pub first_of_list : (text : List ℕ) (fs : List ScriptFault) → AreFaultsOf text fs → (f : ScriptFault)
    → slice_get fs 0 ≡ Some f → ScriptTextFault text f
first_of_list text [] h f is = absurd (let none : ⊥ = cc in none)
first_of_list text (g ∷ fs) h f is =
    let same : g ≡ f = cc in
    subst (ScriptTextFault text) same (first_of_all text g (least_told text g fs h))

-- a text without faults is accepted
pub accepted_of_none : (text : List ℕ) (fs : List ScriptFault) → AreFaultsOf text fs → fs ≡ [] → IsAccepted text
accepted_of_none text fs h none f k = elim (answer_least text f k) [
  | inl memory ↦ memory
  | inr first ↦ absurd (subst (λ fs. IsListed fs f) none (h.all f first.stands))
]

no_memory : (text : List ℕ) → IsFaultOf text OutOfMemory → ⊥
no_memory text (inl k) = absurd (let not = k.0 in grind arith)
no_memory text (inr (inl k)) = absurd (let not = k.0 in grind arith)
no_memory text (inr (inr k)) = ((k.2).1).2

-- an accepted text has none
pub none_of_accepted : (text : List ℕ) (fs : List ScriptFault) → AreFaultsOf text fs → IsAccepted text → fs ≡ []
none_of_accepted text [] h accepted = refl
none_of_accepted text (f ∷ fs) h accepted =
    let r = least_told text f fs h in
    absurd (no_memory text (subst (IsFaultOf text) (accepted f (first_of_all text f r)) r.stands))

-- the reader's answer is the first of all faults
pub answered_first : (text : List ℕ) (fs : List ScriptFault) → AreFaultsOf text fs → (f : ScriptFault)
    → ScriptTextFault text f → (f ≡ OutOfMemory) ⊎ (slice_get fs 0 ≡ Some f)
answered_first text [] h f k = inl (accepted_of_none text [] h refl f k)
answered_first text (g ∷ fs) h f k = elim (answer_least text f k) [
  | inl memory ↦ inl memory
  | inr first ↦ elim (h.all f first.stands) [
    | inl same ↦ inr (ap Some (sym same))
    | inr later ↦
        absurd (first.least g (h.stand g (inl refl)) (before_rest IsBefore g f fs h.in_order later))
  ]
]

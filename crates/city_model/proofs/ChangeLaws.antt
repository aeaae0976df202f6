-- The effect on a map of a change with ascending ids.
use Rattle.city_model.proofs.Prelude.{arith, ◌≡◌, ℕ, List, [], ◌∷◌, true, false, Option, Some, None, Less, refl}
use Rattle.city_model.proofs.Prelude.{if◌then◌else◌, nat_cmp, AllByRecursion, slice_cmp, keys_of, ap, ◌∙◌, AreDistinct}
use Rattle.city_model.proofs.Prelude.{false≢true, Object}
use Rattle.city_model.proofs.Prelude.{CityMap, changed, same_id, has_id}
use Rattle.city_model.proofs.Prelude.{Change, after_change}
use Rattle.std.specs.Option.{unwrap_or}
use Rattle.std.specs.List.Sorted.{IsStrictlySortedBy}
use Rattle.std.proofs.lemmas.Map.Keys.{sorted_tail}
use Rattle.city_model.specs.Writing.{write_in}
use Rattle.city_model.proofs.IdLists.{not_both}
use Rattle.city_members.proofs.Ids.{bool_cases, same_id_true, same_id_back, same_id_itself}
use Rattle.city_model.proofs.Writing.{same_map}

-- each id is below the ids after it
abbrev pub Ascends : Change → Type 0
Ascends c = IsStrictlySortedBy (slice_cmp nat_cmp) (keys_of c)

-- an id below others is none of them
below_is_none : (id : List ℕ) (ids : List (List ℕ)) (q : List ℕ)
    → AllByRecursion (λ k. slice_cmp nat_cmp id k ≡ Less) ids → has_id ids q ≡ true → same_id id q ≡ false
below_is_none id [] q below h = absurd (false≢true h)
below_is_none id (k ∷ ks) q below h = grind (arith, same_id_true q k, below_is_none id ks q below.1)

-- the first id is written once
pub first_once : (w : List ℕ × Option Object) (c : Change) (q : List ℕ) → Ascends (w ∷ c) → has_id (keys_of c) q ≡ true
    → same_id w.0 q ≡ false
unfolding IsStrictlySortedBy
first_once w c q ascends h = below_is_none w.0 (keys_of c) q ascends.0 h

each_once : (c : Change) → Ascends c → AreDistinct (keys_of c)
each_once [] ascends = tt
each_once (w ∷ ws) ascends = (
  bool_cases (has_id (keys_of ws) w.0)
      (λ t. not_both (same_id w.0 w.0) (same_id_itself w.0) (first_once w ws w.0 ascends t)) (λ t. t),
  each_once ws (sorted_tail (slice_cmp nat_cmp) w.0 (keys_of ws) ascends),
)

unwritten : (c : Change) (q : List ℕ) → has_id (keys_of c) q ≡ false → write_in c q ≡ None
unwritten [] q h = refl
unwritten (w ∷ ws) q h = grind (arith, unwritten ws q)

-- if each id is written once, it makes no difference that `write_in` takes the first pair of an id, and `after_change`
-- the last: at an id the map has the write, or else its previous object
pub one_rule : (c : Change) (m : CityMap) (q : List ℕ) → AreDistinct (keys_of c)
    → after_change m c q ≡ unwrap_or (write_in c q) (m q)
one_rule [] m q once = refl
one_rule (w ∷ ws) m q once =
    let rest = one_rule ws (changed m w.0 w.1) q once.1 in
    bool_cases (same_id q w.0)
    (λ t. let none = unwritten ws q (ap (has_id (keys_of ws)) (same_id_true q w.0 t) ∙ once.0) in
    grind (arith, rest, none, same_id_back w.0 q, t))
    (λ t. grind (arith, rest, same_id_back w.0 q, t))

pub at_change : (c : Change) (m : CityMap) (q : List ℕ) → Ascends c
    → after_change m c q ≡ unwrap_or (write_in c q) (m q)
at_change c m q ascends = one_rule c m q (each_once c ascends)

-- one more write, over an earlier one at its id
pub written_more : (c d : Change) (id : List ℕ) (w : Option Object) → Ascends c → Ascends d
    → ((q : List ℕ) → write_in d q ≡ (if same_id id q then Some w else write_in c q))
    → (m : CityMap) → after_change m d ≡ changed (after_change m c) id w
written_more c d id w s t h m = same_map _ _ (λ q. grind (arith, at_change c m q s, at_change d m q t, h q))

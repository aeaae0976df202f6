-- A city after writes.
use Rattle.city_board.proofs.Prelude.{◌≡◌, ℕ, List, [], ◌∷◌, false, refl, sym, ◌∙◌, arith, keys_of, CityMap, CityValue}
use Rattle.city_board.proofs.Prelude.{object_at, changed, has_id, Change, after_change, changed_apart, changed_there}
use Rattle.city_board.proofs.Prelude.{same_id_back, same_map, at_after}
use Rattle.city_model.proofs.Objects.{same_objects}
use Rattle.city_board.specs.internal.Versions.{city_with}

-- writes give the same if maps differ at written ids alone
same_after : (c : Change) (m n : CityMap) (q : List ℕ) → (has_id (keys_of c) q ≡ false → m q ≡ n q)
    → after_change m c q ≡ after_change n c q
same_after [] m n q h = h refl
same_after (w ∷ ws) m n q h = same_after ws (changed m w.0 w.1) (changed n w.0 w.1) q
    (λ none. grind (
      arith,
      changed_there m w.0 w.1 q,
      changed_there n w.0 w.1 q,
      changed_apart m w.0 w.1 q,
      changed_apart n w.0 w.1 q,
      same_id_back q w.0,
    ))

-- cities of one frame and one map are the same
pub same_city : (c d : CityValue) → d.0 ≡ c.0 → object_at d.1 ≡ object_at c.1 → d ≡ c
same_city c d frame same = let objects : d.1 ≡ c.1 = same_objects d.1 c.1 same in λ i. (frame i, objects i)

-- writes give the same city from a map different at written ids alone
pub is_after : (c d : CityValue) (writes : Change) (placed : CityMap) → d.0 ≡ c.0
    → ((q : List ℕ) → has_id (keys_of writes) q ≡ false → placed q ≡ object_at c.1 q)
    → object_at d.1 ≡ after_change placed writes
    → d ≡ city_with c writes
is_after c d writes placed frame others is =
    same_city (city_with c writes) d frame
    (is ∙ same_map (after_change placed writes) (after_change (object_at c.1) writes)
    (λ q. same_after writes placed (object_at c.1) q (others q)) ∙ sym (at_after c.1 writes))

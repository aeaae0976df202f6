use Rattle.city_board.proofs.Prelude.{◌≡◌, ◌&&◌, ◌||◌, ℕ, List, not, is_some, keys_of, object_at, has_id}
use Rattle.city_board.proofs.places.missing.Given as goal

abbrev pub invariant-loop-id : goal.invariant-loop-id
invariant-loop-id l = (q : List ℕ)
    → (has_id (keys_of l.change) q && not (is_some (object_at l.city.1 q)))
    ≡ (has_id l.ids.items q || (has_id (keys_of l.id-iterator) q && not (is_some (object_at l.city.1 q))))

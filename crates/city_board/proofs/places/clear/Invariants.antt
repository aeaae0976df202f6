use Rattle.city_board.proofs.Prelude.{◌≡◌, ℕ, List, None, take, if◌then◌else◌, object_at, has_id}
use Rattle.city_board.proofs.places.clear.Given as goal

abbrev pub invariant-loop-id : goal.invariant-loop-id
invariant-loop-id l = record {
  frame : l.city.0 ≡ l.initial.city.0;
  objects : (q : List ℕ)
      → object_at l.city.1 q ≡ (if has_id (take l.id-index l.ids) q then None else object_at l.initial.city.1 q);
}

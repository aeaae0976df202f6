use Rattle.city_board.proofs.Prelude.{◌≡◌, ℕ, List, true, false, is_some, take, object_at, has_id}
use Rattle.city_board.proofs.places.fill.Given as goal

abbrev pub invariant-loop-id : goal.invariant-loop-id
invariant-loop-id l = record {
  frame : l.city.0 ≡ l.initial.city.0;
  others : (q : List ℕ) → has_id l.ids q ≡ false → object_at l.city.1 q ≡ object_at l.initial.city.1 q;
  there : (q : List ℕ) → has_id (take l.id-index l.ids) q ≡ true → is_some (object_at l.city.1 q) ≡ true;
}

use Rattle.city_board.proofs.Prelude.{◌≡◌, ℕ, List, length, true, is_some, keys_of, object_at, has_id, after_change}
use Rattle.city_board.proofs.apply.write_all.Given as goal

abbrev pub invariant-loop-id : goal.invariant-loop-id
invariant-loop-id l = record {
  frame : l.city.0 ≡ l.initial.city.0;
  objects : after_change (object_at l.city.1) l.change ≡ after_change (object_at l.initial.city.1) l.initial.change;
  there : (q : List ℕ) → has_id (keys_of l.change) q ≡ true → is_some (object_at l.city.1 q) ≡ true;
}

abbrev pub decreases-loop-id : goal.decreases-loop-id
decreases-loop-id l = length l.change

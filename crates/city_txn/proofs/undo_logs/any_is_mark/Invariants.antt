use Rattle.city_txn.proofs.Prelude.{◌≡◌, false, take, list_any}
use Rattle.city_txn.specs.internal.LogTests.{is_mark}
use Rattle.city_txn.proofs.undo_logs.any_is_mark.Given as goal

abbrev pub invariant-loop-entry : goal.invariant-loop-entry
invariant-loop-entry l = list_any (is_mark l.name) (take l.entry-index l.entries) ≡ false

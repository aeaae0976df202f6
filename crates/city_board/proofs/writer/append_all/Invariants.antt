use Rattle.city_board.proofs.Prelude.{◌≡◌, ◌++◌, length, drop}
use Rattle.city_board.proofs.writer.append_all.Given as goal

abbrev pub invariant-loop-edit : goal.invariant-loop-edit
invariant-loop-edit l = record {
  desk : l.writer.desk ≡ l.initial.writer.desk;
  edits : drop l.writer.behind l.writer.log.items ++ l.waiting.items ≡ drop l.initial.writer.behind
      l.initial.writer.log.items ++ l.initial.waiting.items;
}

abbrev pub decreases-loop-edit : goal.decreases-loop-edit
decreases-loop-edit l = length l.waiting.items

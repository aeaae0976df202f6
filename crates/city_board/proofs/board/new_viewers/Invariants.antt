use Rattle.city_board.proofs.Prelude.{◌≡◌, All, view}
use Rattle.std.proofs.Common.{vec_len}
use Rattle.city_board.specs.BoardValues.{viewer_of}
use Rattle.city_board.proofs.board.new_viewers.Given as goal

abbrev pub invariant-loop : goal.invariant-loop
invariant-loop l = record {
  shown : l.writer.desk.shown ≡ l.initial.writer.desk.shown;
  log : l.writer.log ≡ l.initial.writer.log;
  behind : l.writer.behind ≡ l.initial.writer.behind;
  known : view l.writer.desk.place ≡ view l.initial.writer.desk.place;
  count : vec_len l.viewers ≡ l.counter;
  viewers : All (λ v. v ≡ viewer_of l.history l.initial.writer.desk.shown.value.opening) l.viewers.items;
}

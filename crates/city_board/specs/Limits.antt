-- The most viewers of a board.
use Rattle.std.specs.Prelude.{ℕ}

abbrev pub max_viewers : ℕ
max_viewers = 4

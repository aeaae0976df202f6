-- The most workers of a run.
use Rattle.std.specs.Prelude.{ℕ}

abbrev pub max_workers : ℕ
max_workers = 16

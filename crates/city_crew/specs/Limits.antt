-- The most workers and viewers of a run.
pub use Rattle.city_board.specs.Limits.{max_viewers}
pub use Rattle.city_scheduler.specs.Limits.{max_workers}

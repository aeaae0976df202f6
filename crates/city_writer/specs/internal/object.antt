-- Words for how city objects are written.
pub mod InTurn

pub mod Acting
pub mod Changing
pub mod CoreState
pub mod Placeholder
pub mod UndoLog
pub mod Writes
pub mod internal

pub mod Asking
pub mod Holders
pub mod Locks
pub mod Mode
pub mod WaitDie
pub mod internal

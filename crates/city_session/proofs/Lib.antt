pub mod AsScripts
mod Examples
pub mod Ran
pub mod Recorded

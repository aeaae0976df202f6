mod Checked
mod Files
mod Locked
pub mod Prelude
mod Telling

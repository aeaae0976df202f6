mod Crossing
mod Parts
pub mod Prelude
mod TopMembers

pub mod CrewResults
pub mod Crossing
pub mod Prelude
pub mod Rising
pub mod Seen

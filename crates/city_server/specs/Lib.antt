pub mod Answered
pub mod Asked
pub mod Lines
pub mod Lived
pub mod Order
pub mod Sessions

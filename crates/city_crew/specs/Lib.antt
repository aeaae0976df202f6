pub mod Limits
pub mod Rising
pub mod Seen
pub mod internal

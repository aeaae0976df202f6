pub mod Acting
pub mod Grown
pub mod Live
pub mod internal

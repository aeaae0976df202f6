pub mod Prelude
pub mod Floats
pub mod Words

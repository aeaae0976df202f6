pub mod Prelude
pub mod Heads
pub mod Lines
pub mod OneLine

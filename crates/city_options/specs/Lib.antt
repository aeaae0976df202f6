pub mod CommandLines
pub mod LiveLines
pub mod RunOptions
pub mod internal

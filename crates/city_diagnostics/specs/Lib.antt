pub mod Lines
pub mod ModelLines
pub mod ScriptLines
pub mod Warnings
pub mod internal

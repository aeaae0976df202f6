mod CommandMembers
pub mod Conversions
pub mod Laws
pub mod Members
pub mod Options
pub mod Pairing
pub mod Prelude
pub mod Reading
pub mod ResolvedParts
mod ScriptMembers
pub mod document
pub mod tree

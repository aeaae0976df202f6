pub mod Among
pub mod Ids
pub mod LocksAsked
pub mod Once
pub mod Prelude
pub mod Tables

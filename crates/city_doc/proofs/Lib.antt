pub mod FaultLists
pub mod Laws
pub mod OneValue
pub mod Prelude

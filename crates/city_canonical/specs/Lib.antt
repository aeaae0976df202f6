pub mod Members
pub mod Placed
pub mod Same
pub mod Texts
pub mod Faults
pub mod Edited

pub mod Attributes
pub mod Ids
pub mod Integral
pub mod Kept
pub mod Members
pub mod internal

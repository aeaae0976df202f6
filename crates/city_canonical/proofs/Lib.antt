pub mod Boundaries
pub mod CityObjects
pub mod Edits
pub mod Members
pub mod Models
pub mod Prelude
pub mod Texts

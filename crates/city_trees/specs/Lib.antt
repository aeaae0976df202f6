pub mod Items
pub mod Shapes
pub mod internal

-- Words for how geometries are built.
pub mod Geometries

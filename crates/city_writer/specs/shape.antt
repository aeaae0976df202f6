-- Definitions of geometries as they are written.
pub mod Canonical
pub mod Vertices

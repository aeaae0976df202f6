-- Definitions of geometries.
pub mod Geometries
pub mod GeometryTypes

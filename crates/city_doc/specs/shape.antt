-- Definitions of the trees of geometries.
pub mod Forms

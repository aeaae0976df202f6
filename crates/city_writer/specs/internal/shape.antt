-- Words for how geometries and vertices are written.
pub mod InTurn

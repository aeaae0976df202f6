-- Lemmas for several functions of src/shape/.
pub mod Bounded
pub mod ShapeNames
pub mod VerticesInTurn

-- Lemmas for several functions of src/shape/.
pub mod PointsRead

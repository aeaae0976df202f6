-- Lemmas for several functions of src/pool.rt.
pub mod Bounded
pub mod KeptNumbers
pub mod NewPoints
pub mod NumberedAt
pub mod NumberedPoints
pub mod PointsAgain
pub mod Repeats
pub mod Walks

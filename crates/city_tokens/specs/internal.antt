-- Definitions for private clauses and proofs: nothing here has to be believed.
pub mod Commands
pub mod Faultless
pub mod Frames
pub mod Geometries
pub mod Objects
pub mod Positions
pub mod ScriptItems
pub mod Scripts
pub mod Standing
pub mod Stretches
pub mod Taken

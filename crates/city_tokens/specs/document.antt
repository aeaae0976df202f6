-- Definitions of documents.
pub mod Cities
pub mod Frames
pub mod FramesOfRest

pub mod EnoughRead
pub mod FramedCities
pub mod Given
pub mod Inputs
mod JsonLines
pub mod KnownBytes
mod NewlineFree
pub mod Prelude
mod Replacing
mod Reported
mod Serving
pub mod Taken

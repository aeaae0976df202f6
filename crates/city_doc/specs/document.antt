-- Definitions of documents.
pub mod Accepted
pub mod AllFaults
pub mod CanonicalTexts
pub mod CityFaults
pub mod Faults
pub mod Least
pub mod Top

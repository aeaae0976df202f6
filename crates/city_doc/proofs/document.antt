-- Lemmas for several functions of src/document/.
pub mod AllFaults
mod Begun
pub mod CanonicalCities
mod CityNests
pub mod EntriesRead
mod ExampleFaults
mod Faultless
mod Finders
mod FramesRead
mod IdSets
pub mod IntegralTrees
pub mod KeptMembers
pub mod LawfulTrees
pub mod NoFault
mod OneFirst
mod ReadObjects
mod RelatedCities
pub mod Right
pub mod RoundTrip
mod Searches
mod Told

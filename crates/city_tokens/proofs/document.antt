-- Laws of documents.
pub mod BuiltFrames
pub mod Listings

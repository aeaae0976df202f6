-- Specs for the crate's own clauses and proofs only.
pub mod Answering
pub mod NoCity
pub mod Recorded

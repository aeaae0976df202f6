-- Specs for the crate's own clauses and proofs only.
pub mod Listing
pub mod Table

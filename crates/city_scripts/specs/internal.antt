-- Definitions for private clauses and proofs: nothing here has to be believed.
pub mod Faultless
pub mod Forms
pub mod Searches
pub mod TextFaults
pub mod Told

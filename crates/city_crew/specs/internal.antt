-- Definitions for private clauses and proofs only.
pub mod CrewFaults
pub mod CrewResults
pub mod CrewShelves

-- Definitions for private clauses and proofs only.
pub mod CommandShape
pub mod GivenLine

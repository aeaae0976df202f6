-- Definitions for private clauses and proofs: nothing here has to be believed.
pub mod DocumentRuns
pub mod Parts
pub mod Runs
pub mod Tops

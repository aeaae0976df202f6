-- Definitions for private clauses and proofs only.
pub mod BoardRule
pub mod HistoryRule
pub mod Versions

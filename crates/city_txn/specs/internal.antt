-- Specs for the crate's own clauses and proofs only.
pub mod Codes
pub mod Core
pub mod Ending
pub mod Images
pub mod InPlace
pub mod LeastAmong
pub mod LogTests
pub mod Performing
pub mod Prelude
pub mod Reserved
pub mod State
pub mod Transactions

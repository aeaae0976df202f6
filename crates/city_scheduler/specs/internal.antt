-- Definitions for private clauses and proofs only.
pub mod Attempt
pub mod Closing
pub mod NoCity
pub mod Ready
pub mod Room
pub mod RunInTurn
pub mod ScriptParts

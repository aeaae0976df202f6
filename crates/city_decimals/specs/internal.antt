-- Definitions for private clauses and proofs only.
pub mod Changes
pub mod Compact
pub mod Copies
pub mod Directions
pub mod Forms
pub mod Found
pub mod Inner
pub mod Needles
pub mod Newlines
pub mod Objects
pub mod Passed
pub mod PlainNumbers
pub mod Sections
pub mod Streams

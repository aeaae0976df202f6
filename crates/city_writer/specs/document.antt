-- Definitions of documents as they are written.
pub mod Canonical
pub mod Ranges
pub mod Texts

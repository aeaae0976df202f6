-- Definitions of city objects as they are written.
pub mod Canonical

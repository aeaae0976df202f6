-- Definitions of the trees of city objects.
pub mod Faults

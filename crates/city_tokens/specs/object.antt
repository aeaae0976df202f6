-- Definitions of city objects.
pub mod Bodies

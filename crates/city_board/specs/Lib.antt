pub mod BoardValues
pub mod HistoryValue
pub mod Limits
pub mod internal

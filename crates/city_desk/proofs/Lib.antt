pub mod JsonOutputs
pub mod Prelude
pub mod TextFaults

pub mod AllFaults
pub mod CommandFaults
pub mod FaultTexts
pub mod Faults
pub mod WrittenScripts
pub mod internal

pub mod FaultTexts
pub mod RunFaults
pub mod SerialRuns
pub mod TextRuns

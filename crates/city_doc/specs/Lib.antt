pub mod FaultLists
pub mod FaultTexts
pub mod document
pub mod internal
pub mod object
pub mod shape

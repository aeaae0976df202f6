pub mod Decimals
pub mod Destinations
pub mod FaultTexts
pub mod Served
pub mod ServedTexts
pub mod Stages
pub mod Steps
pub mod internal

mod AllFaults
pub mod CommandLists
mod CommandMeanings
mod ExampleFaults
mod FaultlessScripts
mod FirstAt
mod FirstFaults
mod FirstOfAll
mod GivenForms
mod IntegralScripts
mod ItemParts
mod Meanings
pub mod OneList
pub mod Prelude
mod Reshapes
pub mod RoundTrip
mod TextsRead
mod Told
pub mod WrittenScripts

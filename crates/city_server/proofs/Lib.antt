pub mod Answering
pub mod Breaking
pub mod Cutting
pub mod ExampleLines
pub mod Handling
pub mod Living
pub mod Sessions
pub mod Unsynced

pub mod Answers
pub mod Errors
pub mod Members
pub mod Requests
pub mod Told

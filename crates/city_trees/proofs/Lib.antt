pub mod Crossing
pub mod Lists

-- Definitions of JSON trees and their parts.
pub mod Lists
pub mod Members
pub mod Steps
pub mod Texts
pub mod Triples

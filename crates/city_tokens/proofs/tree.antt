-- Laws of JSON trees and their parts.
pub mod AllRead
pub mod IntegralParts
pub mod Puts

mod Blanks
pub mod Digits
mod Lanes
mod Lexemes
mod WholeNumbers
mod Places
mod SmallNumbers
mod Turns

pub mod EachPiece
pub mod Laws
pub mod Prelude

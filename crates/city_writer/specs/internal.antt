-- Words for private clauses and proofs alone: nothing here has to be believed.
pub mod PiecePoints
pub mod PointNumbers
pub mod Pieces
pub mod Pool
pub mod Reports
pub mod document
pub mod object
pub mod script
pub mod shape
pub mod tree

-- Words for private clauses and proofs alone: nothing here has to be believed.
pub mod document
pub mod shape
pub mod tree

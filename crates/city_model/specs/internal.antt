-- Words of proofs and of private contracts. No public definition stands on them.
pub mod BorrowedAmendments
pub mod BorrowedBounds
pub mod Faultless
pub mod IdTrees
pub mod Plans
pub mod RelationTests
pub mod RingFaults
pub mod RisingEdges
pub mod Storages

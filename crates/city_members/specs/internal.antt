-- Words of proofs and of private contracts. No public definition stands on them.
pub mod DataCode
pub mod KeptIn
pub mod KeptSizes
pub mod KeptValues
pub mod MemberLists
pub mod MemberPlaces
pub mod Stored

-- Words for how documents are written.
pub mod KeptMembers
pub mod Pieces
pub mod Rest

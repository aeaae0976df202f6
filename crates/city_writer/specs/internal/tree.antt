-- Words for how JSON trees are written.
pub mod Appended
pub mod MembersLeft
pub mod OwnMembers
pub mod PartTokens
pub mod Parted
pub mod ReadsBack

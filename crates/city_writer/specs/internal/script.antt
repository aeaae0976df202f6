-- Words for how scripts are written.
pub mod KeptMembers

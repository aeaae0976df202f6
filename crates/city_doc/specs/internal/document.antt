-- Words for how documents are read and judged.
pub mod IdSets
pub mod ReadObjects
pub mod Told

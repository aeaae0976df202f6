-- Words for how JSON trees are read.
pub mod TextFaults

pub mod Numbers
pub mod Cursor
pub mod Plain
pub mod Positions
pub mod Sources
pub mod Taken

-- Lemmas for several functions of src/tree/.
pub mod Among
pub mod Appended
pub mod Beside
pub mod CompactJson
pub mod Integers
pub mod KeptSizes
pub mod ReadBack
pub mod TextsJoined
pub mod WrittenItems

-- Lemmas for several functions of src/object/.
pub mod WrittenObjects

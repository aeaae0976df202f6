-- Lemmas for several functions of src/tree/.
pub mod ListsRead
pub mod PutLists
pub mod ReadLists

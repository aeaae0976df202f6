-- Lemmas for several functions of src/document/.
pub mod CityInPieces
pub mod CityTexts
pub mod Lacking
pub mod OwnMembers
pub mod PiecesWritten
pub mod PutMembers
pub mod RestInPieces

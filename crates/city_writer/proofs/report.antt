-- Lemmas for several functions of src/report/.
pub mod JoinedReports

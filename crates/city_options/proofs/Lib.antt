pub mod LineAnswers
pub mod LineFindings
pub mod LineWalk

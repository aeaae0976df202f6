-- Definitions of reports.
pub mod Ends
pub mod JsonLines
pub mod Replies
pub mod Reports

pub mod DeskState
pub mod InTurn
pub mod Limits
pub mod Opening
pub mod RepliesValue
pub mod Serial
pub mod Turning
pub mod internal

pub mod Checks
pub mod Programs
pub mod SeenTexts
pub mod internal

-- Definitions for private functions and proofs: nobody has to read them to know the promises of the crate.
pub mod Framed
pub mod Placing
pub mod WholeTexts

-- Lemmas for several functions of src/script/.
mod ExampleScript
pub mod Parts
pub mod TextsOfScripts

-- Laws of scripts and commands.
pub mod BuiltScripts
pub mod CommandLaws
pub mod OwnForms

pub mod DrawnNumbers
pub mod FieldNames
pub mod GeneratedCommands
pub mod GeneratedScripts
pub mod GeneratedTexts

pub mod Rules
pub mod Theorems

pub mod Operations
pub mod Theorems

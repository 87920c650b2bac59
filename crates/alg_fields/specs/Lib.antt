pub mod Fixed
pub mod Theorems

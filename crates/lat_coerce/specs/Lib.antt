pub mod PrivateSearches
pub mod Theorems

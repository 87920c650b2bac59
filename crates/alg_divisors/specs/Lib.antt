pub mod Factorization
pub mod Theorems

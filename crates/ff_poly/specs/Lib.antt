pub mod Cofactors
pub mod Polynomial
pub mod PrivateDivisors
pub mod PrivateSums

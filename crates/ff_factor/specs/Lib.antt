pub mod Certificates
pub mod FactorLists
pub mod PrivateSplitting
pub mod PrivateCounting

pub mod Generated
pub mod Theorems
pub mod PrivateDraws

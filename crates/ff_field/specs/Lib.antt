pub mod PrivateTables
pub mod SmallFields
pub mod Theorems

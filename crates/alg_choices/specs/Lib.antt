pub mod Restrictions
pub mod Fitting
pub mod Degrees
pub mod Linking
pub mod Theorems

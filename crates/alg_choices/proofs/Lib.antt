pub mod Restrictions
pub mod Fitting
pub mod Searching
pub mod Members
pub mod Linking
pub mod Counting
pub mod Laws

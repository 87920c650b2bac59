pub mod PrivateListing
pub mod PrivateMaking
pub mod PrivateWays

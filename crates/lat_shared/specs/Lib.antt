pub mod Sharing
pub mod PrivateSettings
pub mod PrivatePasses
pub mod PrivateTurns

pub mod Degrees
pub mod PrivateCommon

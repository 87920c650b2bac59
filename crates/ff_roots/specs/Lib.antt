pub mod PrivateCollecting
pub mod PrivatePowers

pub mod Extensions
pub mod PrivateRelations
pub mod PrivateSpans

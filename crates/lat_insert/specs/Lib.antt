pub mod Insertions
pub mod PrivateDeclaring
pub mod PrivateEmbedding
pub mod Theorems
pub mod Wording

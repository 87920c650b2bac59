pub mod PrivateColumns
pub mod PrivateMaps
pub mod SmallEmbeddings
pub mod Theorems

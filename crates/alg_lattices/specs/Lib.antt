pub mod Embeddings
pub mod Lattices
pub mod Filling
pub mod Declaring
pub mod Rules

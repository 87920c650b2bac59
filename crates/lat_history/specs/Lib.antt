pub mod Books
pub mod Passes
pub mod Plays
pub mod PrivateBooks
pub mod PrivatePasses
pub mod Theorems

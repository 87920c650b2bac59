pub mod Tasks
pub mod Answers
pub mod Headline
pub mod Theorems
pub mod PrivateRuns

pub mod WorldLemmas
pub mod Links

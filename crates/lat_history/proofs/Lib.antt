pub mod BookLemmas
pub mod LiftsStay
pub mod PassLemmas

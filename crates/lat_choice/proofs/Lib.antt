pub mod Covering
pub mod Agreeing
pub mod Finding

pub mod Echelons
pub mod ModularMatrix
pub mod PrivateRows

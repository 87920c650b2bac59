pub mod PrivateGrids
pub mod PrivateElimination

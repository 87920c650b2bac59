pub mod RowPlaces
pub mod EliminatedRows
pub mod PivotPlaces
pub mod EchelonConsequences
pub mod ResidueRows

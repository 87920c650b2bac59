pub mod Characteristics
pub mod Reciprocals
pub mod ResidueLists
pub mod ChangedPlaces
pub mod SumRows
pub mod SumsBelow

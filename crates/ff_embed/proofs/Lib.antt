pub mod ColumnTables
mod DigitColumns
pub mod KeptMaps
pub mod Undoing

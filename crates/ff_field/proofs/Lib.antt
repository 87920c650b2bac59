pub mod FrobeniusColumns
pub mod Reductions
pub mod RemainderRows
pub mod RowProducts
pub mod SmallFieldLaws
pub mod TraceRows

pub mod TableValues
pub mod ProgramValues

pub mod Coefficients
pub mod PowersOfX
pub mod Realized
pub mod TablePolynomials
pub mod TableValues

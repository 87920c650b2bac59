pub mod NumbersOfPolynomials
pub mod Search
mod TestAnswers

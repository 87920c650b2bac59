pub mod StoredPairs
pub mod Overfields
pub mod CommonSubfields
pub mod StoredSubfields
pub mod LiftedValues
pub mod GivenAnswers
pub mod AnswersExist
pub mod AnswersDetermined

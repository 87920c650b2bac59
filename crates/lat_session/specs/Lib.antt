pub mod Commands
pub mod Outcomes
pub mod Playing
pub mod PrivateCombining
pub mod PrivatePlaying
pub mod PrivateVariables
pub mod Theorems
pub mod Variables

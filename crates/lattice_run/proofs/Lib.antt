pub mod PlayableScripts
pub mod Transcribed
pub mod NamedTasks
pub mod Running
pub mod Statuses
pub mod Determined
pub mod Answered
pub mod Threaded

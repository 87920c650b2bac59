pub mod SessionLines
pub mod EntryCounts
pub mod FairWorlds
pub mod PlayedCommands
pub mod SessionBlocks
pub mod JobLists
pub mod SharedPerformances

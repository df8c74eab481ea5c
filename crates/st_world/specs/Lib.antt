pub mod Plant
pub mod Machine
pub mod World
pub mod Rounds
pub mod Acts
pub mod Commits
pub mod Shares

pub mod FewEntries
pub mod Names
pub mod Replays

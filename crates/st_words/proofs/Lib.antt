pub mod Rules
pub mod Looks
pub mod Reading
pub mod Names
pub mod Walks
pub mod Refusals
pub mod Dashes
pub mod Once
pub mod Asked
pub mod SpellingLemmas
pub mod JobLemmas
mod Worked

pub mod Lines
pub mod TextLines
pub mod PlanLines
pub mod Trees
pub mod Endings
pub mod PlayedRuns
pub mod PrintedRuns
pub mod ThreadRuns
pub mod HandedBack
pub mod Histories
pub mod LedBack
pub mod Asked
pub mod Entering
mod SerialRuns
mod Promised
mod Worked

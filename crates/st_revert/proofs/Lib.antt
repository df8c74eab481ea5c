pub mod Gathering
pub mod BackLaws
pub mod FitLaws
pub mod WholeLaws
pub mod AskedLaws
mod Worked

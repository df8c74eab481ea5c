pub mod CommandLine
pub mod Grammar
pub mod Jobs
pub mod Laws
pub mod Spelling

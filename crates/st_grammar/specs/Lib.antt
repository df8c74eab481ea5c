pub mod Draft
pub mod Spelling
pub mod Sections
pub mod Commands
pub mod Keywords
pub mod Lines
pub mod Reading
pub mod Sound

pub mod Keywords
pub mod Words
pub mod Plain
pub mod Causes
pub mod Entries
pub mod Saws

pub mod Adding
pub mod Plain
pub mod Gathered
pub mod Counting
pub mod DecidedTickets
pub mod TextLines
pub mod JsonTexts

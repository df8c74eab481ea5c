pub mod RowSets
pub mod Overlaying
pub mod Openings
pub mod Alterations
pub mod FittingRows

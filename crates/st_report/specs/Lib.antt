pub mod Lines
pub mod Counts
pub mod Text
pub mod Json
pub mod Sums
pub mod Inside
pub mod JsonInside

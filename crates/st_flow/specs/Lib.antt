pub mod Flowing
pub mod Network
pub mod Residual
pub mod Rows
pub mod Search

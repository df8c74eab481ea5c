pub mod Schedule
pub mod Serial
pub mod Shares
pub mod Most
pub mod Kept
pub mod Decided

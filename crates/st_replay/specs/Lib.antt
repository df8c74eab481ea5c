pub mod Again
pub mod Replaying
pub mod Statuses

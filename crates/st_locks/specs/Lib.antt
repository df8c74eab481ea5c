pub mod LockRows
pub mod Answers

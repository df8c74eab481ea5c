pub mod Control
pub mod Verdict
pub mod Inside
pub mod Sure
pub mod Basis
pub mod Commits
pub mod Withdrawals

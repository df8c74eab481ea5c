pub mod Chains
pub mod Worked

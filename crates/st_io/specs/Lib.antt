pub mod Adapted
pub mod Input
pub mod Memory
pub mod Output
pub mod Outside

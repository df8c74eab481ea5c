pub mod Messages
pub mod Deliveries

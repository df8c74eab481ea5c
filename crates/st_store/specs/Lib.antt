pub mod Changes
pub mod Rooms
pub mod Versions
pub mod Reports
pub mod Store
pub mod Inside
pub mod Laws

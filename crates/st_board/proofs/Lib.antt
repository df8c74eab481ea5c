pub mod Fronts
pub mod Recents
pub mod Showing
pub mod Worked

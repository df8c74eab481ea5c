pub mod BoardInside
pub mod Posts
pub mod Published
pub mod ReaderInside
pub mod Recent
pub mod RecentInside
pub mod ShownInside

pub mod ReaderInside
pub mod Printed
pub mod ReadingBack
pub mod Counted

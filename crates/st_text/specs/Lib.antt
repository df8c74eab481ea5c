pub mod AllowedBytes
pub mod Inside
pub mod Lines
pub mod Numbers
pub mod Printed
pub mod ReadingBack
pub mod Tokens
pub mod Words

pub mod LineInside
pub mod Lines
pub mod WriterInside

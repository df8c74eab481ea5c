pub mod GroupInside

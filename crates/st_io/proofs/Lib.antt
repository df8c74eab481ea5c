pub mod Advances
pub mod Given
pub mod Pieces
pub mod Plans

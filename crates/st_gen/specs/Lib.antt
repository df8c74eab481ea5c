pub mod TreeNames
pub mod FatTrees
pub mod Scripts
pub mod Generated

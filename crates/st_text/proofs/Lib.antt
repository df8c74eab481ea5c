mod SliceLemmas
mod LineLemmas
mod TokenLemmas
pub mod NumberLemmas
pub mod PrintLemmas
pub mod ReadingBackLemmas
pub mod WordLemmas

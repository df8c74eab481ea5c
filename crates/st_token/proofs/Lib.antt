pub mod RowLemmas
pub mod PrintedTokens
pub mod FirstBad
pub mod FoundNames
pub mod PrintedRows
mod ReadingBackLemmas
pub mod ReadTokens
mod RowRuns

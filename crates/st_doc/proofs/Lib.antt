pub mod JournalPlaces
mod WireLemmas
mod PrintSteps
mod PrintedTokens
mod PrintedParts
mod PrintedOpenings
mod PrintedHealths
mod PrintedGroups
mod PrintedWires
mod PrintedActs
pub mod PrintedDocs
mod TextLemmas

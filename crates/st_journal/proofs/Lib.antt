pub mod ReplayLemmas
pub mod PrintLemmas
pub mod EventLemmas
pub mod SideLemmas
pub mod JournalLemmas
pub mod ReadEvents
pub mod SoundGroups
pub mod ReadJournals
mod WorkedReading
pub mod PrintedNames
pub mod PrintedEvents
pub mod PrintedReplies
pub mod OwnRows
pub mod PrintedEntries
pub mod PrintedJournals
pub mod LegalReplies
pub mod PrintedBack
mod WorkedJournals

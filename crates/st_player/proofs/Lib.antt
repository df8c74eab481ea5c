pub mod AboutLemmas
pub mod Altered
pub mod AskedLemmas
pub mod CauseLaws
pub mod ChangeLemmas
pub mod CutLemmas
pub mod FarCuts
pub mod GroupParts
pub mod GroupTexts
pub mod JoinLemmas
pub mod KnownLemmas
pub mod KnownReports
pub mod OriginLemmas
pub mod PartLemmas
pub mod PassLemmas
pub mod PictureLemmas
pub mod Pieces
pub mod PlayLemmas
pub mod PlaybackLemmas
pub mod PlayedBack
pub mod PlayedCounts
pub mod ReplayLemmas
pub mod SafeLemmas
pub mod SnapshotLemmas
pub mod StateLemmas
pub mod StateParts
pub mod ToldCuts
pub mod ToldEntries
pub mod Untouched
mod WorkedCalls
mod WorkedCauses
mod WorkedCuts
mod WorkedEntries
mod WorkedFields
mod WorkedGroup
mod WorkedLosses
mod WorkedPictures
mod WorkedPlayedBack
mod WorkedRefusals
mod WorkedStates

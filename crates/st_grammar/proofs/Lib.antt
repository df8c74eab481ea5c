pub mod TorLemmas
pub mod OpenLemmas
pub mod HealthLemmas
pub mod SoundGroups
pub mod SoundSteps
pub mod SoundLines
pub mod SoundActs
mod SoundDrafts
pub mod SoundDocs
pub mod SoundParts
pub mod FirstBad

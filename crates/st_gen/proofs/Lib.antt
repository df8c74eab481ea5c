pub mod Growing
pub mod SmallNames
pub mod Numbers
pub mod Counted
pub mod SoundParts
pub mod SoundTexts
mod Worked

pub mod ChangeLaws
pub mod RoomLaws
pub mod EntryLaws
pub mod VersionLaws
pub mod ReportLaws
pub mod MergeSteps
pub mod QueueLaws

pub mod MachineLaws
pub mod PlantLaws
pub mod RunLaws
pub mod SettleLaws
pub mod RoundLaws
pub mod RangeLaws
pub mod SeenLaws
pub mod ActLaws
pub mod TurnLaws
pub mod WorldLaws
pub mod CommitLaws
mod WorkedFollowUps
mod WorkedCalls
pub mod CallLaws

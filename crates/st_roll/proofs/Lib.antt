pub mod JudgingLaws
pub mod PassLaws
pub mod PlanLaws
pub mod AlterLaws
pub mod BrokenLaws
pub mod RollLaws
pub mod LockLaws
mod Worked
mod WorkedRolls

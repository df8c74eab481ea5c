pub mod Made
pub mod Stamps
pub mod Shown
pub mod SureIsUp
pub mod Later
pub mod Queues
pub mod Targets
pub mod SureSteps
pub mod Promises
pub mod History
pub mod Agreement
mod SmallGroups
mod Worked
mod WorkedEdges
mod WorkedWithdrawals
pub mod AgentSteps
pub mod Standings
pub mod Greatest
pub mod Turns
pub mod LawLemmas
pub mod Apart
pub mod PromiseLaws
pub mod Granted
pub mod Unfolding
pub mod InmostCut
pub mod Ascending
pub mod Unnamed
pub mod Versions
pub mod Accepting
pub mod Ranges
pub mod Prefixes
pub mod Begun
pub mod Undecided
pub mod Withdrawals
pub mod Mixed

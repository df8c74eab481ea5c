pub mod LockSets

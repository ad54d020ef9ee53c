-- The laws of a replay, and its promises kept.
pub mod Comparing
pub mod Cycles
pub mod Into
pub mod Answered
pub mod Found
pub mod OfRuns
pub mod ByRules
pub mod InParts
pub mod Witness
pub mod Kept

-- The laws of changes, and the promises kept.
pub mod Counts
pub mod Loops
pub mod Lines
pub mod Pairs
pub mod Listed
pub mod Requirements
pub mod Kept

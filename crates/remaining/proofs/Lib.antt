-- The laws of what can still happen.
pub mod PastRecords
pub mod Inputs
pub mod Counted
pub mod Promised
pub mod Witness
pub mod Kept

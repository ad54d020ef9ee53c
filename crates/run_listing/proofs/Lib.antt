-- The laws of what is told, and the promises kept.
pub mod Requirements
pub mod Telling
pub mod Witness
pub mod EmptyListed
pub mod Kept

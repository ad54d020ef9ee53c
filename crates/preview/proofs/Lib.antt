-- The laws of the preview, and its promises kept.
pub mod Answered
pub mod Showing
pub mod Witness
pub mod Kept

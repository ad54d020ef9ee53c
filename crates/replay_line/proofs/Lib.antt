-- The laws of what sheetreplay prints, and the promises kept.
pub mod Telling
pub mod Witness
pub mod Kept

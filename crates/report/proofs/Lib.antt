-- The laws of what sheetreport prints, and the promises kept.
pub mod Telling
pub mod Witness
pub mod Kept

-- What `sheetreplay` prints and what is promised of it.
-- To believe:
pub mod ReplayLine
pub mod Promises

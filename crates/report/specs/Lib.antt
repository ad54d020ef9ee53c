-- What `sheetreport` prints and what is promised of it.
-- To believe:
pub mod Reported
pub mod Promises

-- The changes in the outputs of a run, the report's lines, and what is promised of them.
-- To believe:
pub mod Changes
pub mod ReportLines
pub mod Promises
-- What a function gives, and the proofs need:
pub mod Places

-- A text as a sheet (docs/SHEETS.md, "The sheet of a text"): what the names stand for, the records, and the expression with distances.
-- To believe:
pub mod Resolved
pub mod Distances
pub mod Layout
pub mod Promises

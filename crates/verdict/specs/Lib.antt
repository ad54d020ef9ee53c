-- The check (docs/SHEETS.md): the verdict on a byte string, what it promises, and the table of an accepted sheet.
-- To believe:
pub mod Scopes
pub mod Widths
pub mod Promises
-- What the promises pin down, so that it need not be believed:
pub mod Verdict
-- What functions ask and give, and their proofs need:
pub mod Stages
pub mod CheckedTable
pub mod CheckedSheet
